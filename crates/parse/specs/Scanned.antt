-- What a scan y is that is left of a scan x.
use Rattle.std.specs.Prelude.{◌≡◌, List, ℕ, MatchOption}
use Rattle.std.specs.declared.option.Option.{Option}
use Rattle.std.specs.declared.option.Option.TheVariants.{Some, None}
use Rattle.image.specs.Parse.{Parsed, failed, number_in}
use Rattle.parse.specs.declared.leaf.Scan.{Scan}
use Rattle.parse.specs.Scan.{Counted, Scans, Grown}

-- what is left, where something was read
abbrev pub left : {A : Type 0} → Option A → List ℕ → Option (List ℕ)
left (Some x) rest = Some rest
left None rest = None

-- p read something off the front, and what that adds is added to the spans, a table that is still the one that was lent; or p
-- fails
pub record Scanned {A B : Type 0} (m : ℕ) (p : List ℕ → Parsed A) (adds : A → ℕ → ℕ) (x y : Scan) (answer : Option B) : Type 0 where
  pub same : y.spans.ghost_name ≡ x.spans.ghost_name
  pub scans : Scans x.text.now m (p x.text.now) adds x.spans.now y.spans.now (left answer y.text.now)

-- a length or a count was read off the front, or is not there
pub record CountScanned (x y : Scan) (answer : Option ℕ) : Type 0 where
  pub same : y.spans.ghost_name ≡ x.spans.ghost_name
  pub spans : y.spans.now ≡ x.spans.now
  pub tells : MatchOption answer (number_in x.text.now ≡ failed) (λ n. Counted x.text.now n y.text.now)

-- the span of node k has grown by n
pub record SpanAdded (k n : ℕ) (x y : Scan) : Type 0 where
  pub same : y.spans.ghost_name ≡ x.spans.ghost_name
  pub text : y.text.now ≡ x.text.now
  pub grown : Grown x.spans.now y.spans.now k n
