-- What a scan asks for and what it tells: what is left of the string, and the spans of the nodes, a number for each of 256,
-- how far the offsets of the rows that were read go on.
use Rattle.std.specs.Prelude.{◌≡◌, cond, List, ℕ, ◌+◌, ◌≤◌, ◌<◌, eqb, leb, length, get_or, MatchOption}
use Rattle.std.specs.declared.option.Option.{Option}
use Rattle.image.specs.Bytes.{byte_at}
use Rattle.image.specs.Record.{node_count, code_of, first_child, child_count}
use Rattle.image.specs.TypeCode.{layout_of}
use Rattle.image.specs.Row.{Row, Rows}
use Rattle.image.specs.RowBytes.{count}
use Rattle.image.specs.Parse.{Parsed, failed, parsed, and_then, bytes_in, number_in, rows_of, row_of_each, checked_text, value_in, row_in}
use Rattle.image.specs.Built.{from_each}
use Rattle.laws.specs.Accepted.{AcceptedImage}
use Rattle.built.specs.Walk.{over_each, gives, total}

-- The values as they are read: the byte of a Boolean, the bytes of a text, the rows of a list, a row of each child.
unfoldable pub boolean_in : List ℕ → Parsed (List ℕ)
boolean_in b = cond (leb (byte_at b 0) 1) (bytes_in 1 b) failed

unfoldable pub text_in : ℕ → List ℕ → Parsed (List ℕ)
text_in code b = and_then (and_then (number_in b) bytes_in) (checked_text code)

unfoldable pub list_of : ℕ → List ℕ → ℕ → List ℕ → Parsed Rows
list_of d s k b = and_then (number_in b) (rows_of (row_in d s (first_child s k)))

abbrev pub struct_of : ℕ → List ℕ → ℕ → List ℕ → Parsed Rows
struct_of d s k = row_of_each (row_in d s) (first_child s k) (child_count s k)

-- the value of node k, by its layout
abbrev pub value_of : ℕ → List ℕ → ℕ → List ℕ → Parsed Row
value_of d s k = value_in (layout_of (code_of s k)) (row_in d s) s k

-- What they add to the span of node j: nothing, a row of node k, rows of node k, a row of each node from c on, a text of
-- node k, the rows of a list of node k, a row of each child of node k.
unfoldable pub nothing : List ℕ → ℕ → ℕ
nothing x j = 0

unfoldable pub row_adds : ℕ → List ℕ → ℕ → Row → ℕ → ℕ
row_adds d s k r j = total (gives d s k r j)

unfoldable pub rows_add : ℕ → List ℕ → ℕ → Rows → ℕ → ℕ
rows_add d s k rs j = total (from_each (λ r. gives d s k r j) rs)

unfoldable pub each_adds : ℕ → List ℕ → ℕ → Rows → ℕ → ℕ
each_adds d s c rs j = total (over_each (λ k r. gives d s k r j) c rs)

unfoldable pub sized_adds : ℕ → List ℕ → ℕ → ℕ
sized_adds k x j = cond (eqb k j) (length x) 0

unfoldable pub counted_adds : ℕ → List ℕ → ℕ → Rows → ℕ → ℕ
counted_adds d s k rs j = cond (eqb k j) (count rs) 0 + rows_add d s (first_child s k) rs j

abbrev pub joined_adds : ℕ → List ℕ → ℕ → Rows → ℕ → ℕ
joined_adds d s k = each_adds d s (first_child s k)

-- the largest number of an entry
abbrev pub largest : ℕ
largest = 18446744073709551615

-- a node of an accepted image
pub record Within (s : List ℕ) (k : ℕ) : Type 0 where
  pub image : AcceptedImage s
  pub node : k < node_count s

-- A scan begins at the front of b. Any node's span has room for as much as b has bytes.
pub record Begun (b spans : List ℕ) : Type 0 where
  pub sized : length spans ≡ 256
  pub room : (j : ℕ) → j < 256 → get_or spans j 0 + length b ≤ largest

-- x is the number in front of b, and rest what is left behind it
pub record Counted (b : List ℕ) (x : ℕ) (rest : List ℕ) : Type 0 where
  pub is : number_in b ≡ parsed x rest
  pub took : length rest + 4 ≡ length b

-- p read something, and rest is left of b; the spans have grown by what it adds. It took m bytes more than it adds to any
-- span.
pub record Reached {A : Type 0} (b : List ℕ) (m : ℕ) (p : Parsed A) (adds : A → ℕ → ℕ) (before after rest : List ℕ) : Type 0 where
  pub what : A
  pub is : p ≡ parsed what rest
  pub spans : (j : ℕ) → j < 256 → get_or after j 0 ≡ get_or before j 0 + adds what j
  pub took : (j : ℕ) → length rest + m + adds what j ≤ length b

-- what a scan of b answers of p: what is left behind what p reads, or none where p fails
pub record Scans {A : Type 0} (b : List ℕ) (m : ℕ) (p : Parsed A) (adds : A → ℕ → ℕ) (before after : List ℕ) (answer : Option (List ℕ)) : Type 0 where
  pub sized : length after ≡ length before
  pub tells : MatchOption answer (p ≡ failed) (λ rest. Reached b m p adds before after rest)

-- the span of node k has grown by n, and no other
pub record Grown (before after : List ℕ) (k n : ℕ) : Type 0 where
  pub sized : length after ≡ length before
  pub spans : (j : ℕ) → get_or after j 0 ≡ get_or before j 0 + cond (eqb k j) n 0
