-- One entry taken off the bytes.
use Rattle.std.proofs.Common.{◌≡◌, ℕ, suc, ◌+◌, ◌-◌, ◌<◌, List, ◌∷◌, Ok, sym, ◌∙◌, arith}
use Rattle.file.specs.declared.entry.Site.{Site}
use Rattle.file.specs.Entry.{Content, section_of, section_count}
use Rattle.file.specs.Outcome.{Outcome, found, first_entry, site_at, onward, entries, sections}

-- what is to come in section s, with n entries left from entry i on
abbrev coming : ℕ → ℕ → ℕ → ℕ → List ℕ → List Outcome
coming size s n i bs = entries size s n i (sections size (section_count - s) (i + n)) bs

pub entry_comes : (size s n i : ℕ) (bs : List ℕ) (site : Site) (x : Content × List ℕ) → site ≡ site_at size s i bs → 0 < n → Ok x ≡ first_entry (section_of s) bs → coming size s n i bs ≡ found site x.0 ∷ coming size s (n - 1) (i + 1) x.1
entry_comes size s n i bs site x at some is =
    let k : n ≡ suc (n - 1) = omega arith in
    let j : i + n ≡ i + 1 + (n - 1) = omega arith in
    (λ d. entries size s (k d) i (sections size (section_count - s) (j d)) bs)
    ∙ (λ d. onward (sym at d) (sym is d) (coming size s (n - 1) (i + 1)))
