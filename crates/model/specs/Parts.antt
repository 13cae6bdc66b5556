-- Parts by their numbers.
use Rattle.std.specs.Prelude.{◌≡◌, ℕ, ◌-◌, if◌then◌else◌, List, Some, None, Result, nat_lt}
use Rattle.std.specs.List.{range_with_len}
use Rattle.std.specs.Option.{option_map}
use Rattle.std.specs.Result.{result_ok}
use Rattle.model.specs.Calls.{parts}
use Rattle.model.specs.declared.part.Part.{Part}
use Rattle.model.specs.declared.part.Parts.{Parts}
use Rattle.model.specs.declared.part.UnknownPart.{UnknownPart}

-- a number gives the part that has it, if there is one
abbrev pub IsPart : ℕ → Result Part UnknownPart → Type 0
IsPart n r = option_map (λ p. p.number) (result_ok r) ≡ (if nat_lt n parts then Some n else None)

-- the numbers of the parts that are still to come
abbrev pub parts_left : Parts → List ℕ
parts_left p = range_with_len p.next (parts - p.next)
