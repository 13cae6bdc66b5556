-- What is written in the format is read again.
use Rattle.std.proofs.Common.{◌≡◌, ℕ, suc, ◌+◌, ◌-◌, ◌*◌, ◌/◌, ◌%◌, ◌<◌, ◌≤◌, Bool, true, false, cond, leb, List, [], ◌∷◌, ◌++◌, length, take, Ok, sym, refl, ap, ◌∙◌, arith, length-append}
use Rattle.std.specs.List.{flat_map, AllByRecursion}
use Rattle.std.proofs.lemmas.List.{append_assoc, take_at, drop_at, take_all}
use Rattle.std.proofs.ByRecursion.{All-append}
use Rattle.std.proofs.lemmas.Bool.{le-leb, leb-true, leb-false, cond-true, cond-false, and_from}
use Rattle.file.specs.declared.section.Section.{Section}
use Rattle.file.specs.Entry.{entry_in, in_section, section_of, section_count}
use Rattle.file.proofs.Sizes.{sized_plain, sized_counted}
use Rattle.file.specs.Numbers.{pairs}
use Rattle.file.specs.Outcome.{Outcome, found, cut_off, first_entry, onward, entries, sections}
use Rattle.file.specs.Format.{two_bytes, vertices_written, entry_written, section_written, sections_written, bytes_of, EntryFits, SectionsFit, Bytes, entries_placed, sections_placed, ReadsWhatIsWritten, ReadsVertices}

pairs_written : (vs : List ℕ) → pairs (vertices_written vs) ≡ vs
pairs_written [] = refl
pairs_written (v ∷ vs) =
    let e : 256 * (v / 256) + v % 256 ≡ v = omega arith in
    let ih = pairs_written vs in
    (λ d. e d ∷ ih d)

pub vertices_come_back : ReadsVertices
vertices_come_back vs few = ap (take 4) (pairs_written vs) ∙ take_all 4 vs (omega arith)

length_written : (vs : List ℕ) → length (vertices_written vs) ≡ 2 * length vs
length_written [] = refl
length_written (v ∷ vs) = let ih = length_written vs in omega arith

cut_off_written : (k : Section) (vs rest : List ℕ) (n : ℕ) → n ≡ length vs → cut_off k (Ok (n, vertices_written vs ++ rest)) ≡ Ok (entry_in k (vertices_written vs), rest)
cut_off_written k vs rest n is =
    let long = length_written vs in
    let e : length (vertices_written vs) ≡ 2 * n = omega arith in
    let fits : 2 * n ≤ length (vertices_written vs ++ rest) = omega (arith, length-append (vertices_written vs) rest) in
    let t = take_at (vertices_written vs) rest (2 * n) e in
    let r = drop_at (vertices_written vs) rest (2 * n) e in
    cond-true _ _ _ (le-leb (2 * n) (length (vertices_written vs ++ rest)) fits) ∙ (λ d. Ok (entry_in k (t d), r d))

-- an entry that was written is the first that is read
first_written : (s : ℕ) (vs rest : List ℕ) → EntryFits s vs → first_entry (section_of s) (entry_written s vs ++ rest) ≡ Ok (in_section s (vertices_written vs), rest)
first_written s vs rest fits = go (leb s 4) refl
  where
    k : Section
    k = section_of s

    go : (b : Bool) → leb s 4 ≡ b → first_entry k (entry_written s vs ++ rest) ≡ Ok (entry_in k (vertices_written vs), rest)
    go true e =
        let w : entry_written s vs ≡ vertices_written vs = cond-true _ _ _ e in
        let low = leb-true s 4 e in
        let size : 5 - s ≡ length vs = omega (arith, fits.plain low) in
        ap (λ l. first_entry k (l ++ rest)) w ∙ ap (cut_off k) (sized_plain s (vertices_written vs ++ rest) (omega arith) low) ∙ cut_off_written k vs rest (5 - s) size
    go false e =
        let w : entry_written s vs ≡ length vs ∷ vertices_written vs = cond-false _ _ _ e in
        let far = leb-false s 4 e in
        let some = cond-true _ _ _ (and_from _ _ (le-leb 1 (length vs) (omega arith)) (le-leb (length vs) 4 (omega arith))) in
        ap (λ l. first_entry k (l ++ rest)) w ∙ ap (cut_off k) (sized_counted s (length vs ∷ vertices_written vs ++ rest) (omega arith) ∙ some) ∙ cut_off_written k vs rest (length vs) refl

-- the entries that were written are read, and then what comes after them
entries_read : (size s i p : ℕ) (go : List ℕ → List Outcome) (es : List (List ℕ)) (rest : List ℕ) → AllByRecursion (EntryFits s) es → p + length (flat_map (entry_written s) es ++ rest) ≡ size → entries size s (length es) i go (flat_map (entry_written s) es ++ rest) ≡ entries_placed s i p es ++ go rest
entries_read size s i p go [] rest fits at = refl
entries_read size s i p go (vs ∷ es) rest fits at =
    let split = append_assoc (entry_written s vs) (flat_map (entry_written s) es) rest in
    let long = length-append (entry_written s vs) (flat_map (entry_written s) es ++ rest) in
    let all = ap length split in
    let here : size - length ((entry_written s vs ++ flat_map (entry_written s) es) ++ rest) ≡ p = omega arith in
    let next : p + length (entry_written s vs) + length (flat_map (entry_written s) es ++ rest) ≡ size = omega arith in
    let first = ap (first_entry (section_of s)) split ∙ first_written s vs (flat_map (entry_written s) es ++ rest) fits.0 in
    let ih = entries_read size s (i + 1) (p + length (entry_written s vs)) go es rest fits.1 next in
    (λ d. onward (record { section = s; entry = i; place = here d }) (first d) (entries size s (length es) (i + 1) go)) ∙ ap (λ l. found (record { section = s; entry = i; place = p }) (in_section s (vertices_written vs)) ∷ l) ih

sections_read : (size k s n p : ℕ) (file : List (List (List ℕ))) → length file ≡ k → s + k ≡ suc section_count → SectionsFit s file → p + length (sections_written s file) ≡ size → sections size k n (sections_written s file) ≡ sections_placed s p file
sections_read size k s n p [] is last fits at = ap (λ m. sections size m n []) (sym is)
sections_read size k s n p (es ∷ more) is last fits at =
    let c : 256 * (length es / 256) + length es % 256 ≡ length es = omega arith in
    let long = length-append (section_written s es) (sections_written (s + 1) more) in
    let body = length-append (flat_map (entry_written s) es) (sections_written (s + 1) more) in
    let here : p + 2 + length (flat_map (entry_written s) es ++ sections_written (s + 1) more) ≡ size = omega arith in
    let next : p + length (section_written s es) + length (sections_written (s + 1) more) ≡ size = omega arith in
    let t : section_count - length more ≡ s = omega arith in
    let one : sections size k n (sections_written s (es ∷ more)) ≡ entries size s (length es) 0 (sections size (length more) (length es)) (flat_map (entry_written s) es ++ sections_written (s + 1) more) = ap (λ m. sections size m n (sections_written s (es ∷ more))) (sym is) ∙ (λ d. entries size (t d) (c d) 0 (sections size (length more) (c d)) (flat_map (entry_written s) es ++ sections_written (s + 1) more)) in
    let ih = sections_read size (length more) (s + 1) (length es) (p + length (section_written s es)) more refl (omega arith) fits.2 next in
    one ∙ entries_read size s 0 (p + 2) (sections size (length more) (length es)) es (sections_written (s + 1) more) fits.1 here ∙ ap (λ l. entries_placed s 0 (p + 2) es ++ l) ih

two_are_bytes : (n : ℕ) → n < 65536 → Bytes (two_bytes n)
two_are_bytes n h = (omega arith, (omega arith, tt))

vertices_are_bytes : (vs : List ℕ) → AllByRecursion (λ v. v < 65536) vs → Bytes (vertices_written vs)
vertices_are_bytes [] h = tt
vertices_are_bytes (v ∷ vs) h = All-append _ (two_bytes v) (vertices_written vs) (two_are_bytes v h.0) (vertices_are_bytes vs h.1)

entries_are_bytes : (s : ℕ) (es : List (List ℕ)) → AllByRecursion (EntryFits s) es → Bytes (flat_map (entry_written s) es)
entries_are_bytes s [] h = tt
entries_are_bytes s (vs ∷ es) h = All-append _ (entry_written s vs) (flat_map (entry_written s) es) (go (leb s 4)) (entries_are_bytes s es h.1)
  where
    go : (b : Bool) → Bytes (cond b (vertices_written vs) (length vs ∷ vertices_written vs))
    go true = vertices_are_bytes vs h.0.narrow
    go false = (omega (arith, h.0.high), vertices_are_bytes vs h.0.narrow)

sections_are_bytes : (s : ℕ) (file : List (List (List ℕ))) → SectionsFit s file → Bytes (sections_written s file)
sections_are_bytes s [] h = tt
sections_are_bytes s (es ∷ more) h =
    All-append _ (section_written s es) (sections_written (s + 1) more) (All-append _ (two_bytes (length es)) (flat_map (entry_written s) es) (two_are_bytes (length es) h.0) (entries_are_bytes s es h.1)) (sections_are_bytes (s + 1) more h.2)

pub written_is_read : ReadsWhatIsWritten
written_is_read file fits = (
  sections_are_bytes 1 file fits.1,
  sections_read (length (bytes_of file)) section_count 1 0 0 file fits.0 refl fits.1 (omega arith),
)
