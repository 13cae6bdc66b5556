-- The first entry that is left is taken.
use Rattle.std.proofs.Common.{◌≡◌, Ok, sym, ap, ◌∙◌, rules}
use Rattle.file.specs.Entry.{content, read}
use Rattle.file.specs.Outcome.{first_entry}
use Rattle.file.proofs.Takings.{entry_comes}
use Rattle.file.proofs.reader.Reader.take.Goals as goal

pub returns : goal.returns
returns c =
    let r = c.args.self.now in
    let got : c.first.result ≡ Ok (c.in_ok-entry.entry, c.in_ok-entry.rest) = search rules in
    let is = ap read (sym got) ∙ c.first.ensures.is ∙ ap (λ k. first_entry k r.rest.now) c.from.ensures in
    entry_comes r.size r.section r.left r.entry r.rest.now c.site-site.result (content c.in_ok-entry.entry, c.in_ok-entry.rest.now) c.site-site.ensures c.requires is
