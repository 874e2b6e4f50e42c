-- What only private contracts cite: the check that a type has in document 01's table, and the number that tests come to.
use Rattle.std.specs.Prelude.{ℕ, false, cond, List, [], ◌∷◌, eqb, Option, Some, None}
use Rattle.refusals.specs.Refusals.{Tests, ordered, zero_or}
use Rattle.payloads.specs.Checks.{document, tests_by}
use Rattle.payloads.specs.declared.check.Check.{Check}

unfoldable pub check_in : List (ℕ × Check) → ℕ → Option Check
check_in [] kind = None
check_in (d ∷ ds) kind = cond (eqb kind d.0) (Some d.1) (check_in ds kind)

abbrev pub check_for : ℕ → Option Check
check_for kind = check_in document kind

-- the tests of a type that has a check, and of one that has none
abbrev pub tests_found : Option Check → List ℕ → Tests
tests_found None s = (false, 21) ∷ []
tests_found (Some k) s = tests_by k s

-- the number of the first that fails, or 0
abbrev pub number_by : Tests → ℕ
number_by ts = zero_or (ordered {A = Unit {0}} ts tt)
