-- What is known while the parts of an image are filled, row by row: each part holds what the rows so far make, and zeros behind.
use Rattle.std.specs.Prelude.{◌≡◌, Bool, true, false, List, [], ◌++◌, map, ◌⊎◌, ℕ, suc, ◌+◌, ◌*◌, ◌-◌, ◌≤◌, ◌<◌, ◌^◌, length, get_or, set, replicate, Ok}
use Rattle.image.specs.declared.type_code.Layout.{Layout}
use Rattle.image.specs.declared.type_code.Layout.TheVariants.{Null, Boolean, FixedWidth, VariableSize, View, List as Lists, ListView, FixedList, Struct, DenseUnion, SparseUnion, Dictionary, Runs}
use Rattle.image.specs.Bytes.{byte_at, bytes_at}
use Rattle.image.specs.Record.{longest_image, most_elements, node_count, code_of}
use Rattle.image.specs.TypeCode.{layout_of, takes_bitmap}
use Rattle.image.specs.Element.{element_width}
use Rattle.image.specs.Faults.{check_image}
use Rattle.image.specs.Row.{Row, Rows, joined, counted, rows_then}
use Rattle.image.specs.RowBytes.{count}
use Rattle.image.specs.Parse.{Parsed, parsed, readable, rows_of, row_in, rows_in}
use Rattle.image.specs.Built.{from_each, gap_row, each_number, each_bytes, bits_number, value_bit, value_bytes, text_bytes, node_part, column, part_start}
use Rattle.built.specs.Walk.{own, gives, total, the_row, the_rows}
use Rattle.fill.specs.declared.put.Filling.{Filling}
use Rattle.fill.specs.declared.put.Spot.{Spot}

-- How far the filling is: the buffer, how many rows each node has got, and how far its offsets are.
pub record State : Type 0 where
  pub out : List ℕ
  pub rows : List ℕ
  pub spans : List ℕ

abbrev pub filling : List ℕ → List ℕ → List ℕ → State
filling out rows spans = record { out = out; rows = rows; spans = spans }

abbrev pub state : Filling → State
state x = filling x.out.now (map (λ t. t.rows) x.tallies) (map (λ t. t.span) x.tallies)

-- Part q stands from its place up to that of the next; part i of node k is part 3 * k + i of all.
abbrev pub part_len : List ℕ → ℕ → ℕ
part_len places q = get_or places (suc q) 0 - get_or places q 0

abbrev pub part_bytes : List ℕ → List ℕ → ℕ → List ℕ
part_bytes places out q = bytes_at out (get_or places q 0) (part_len places q)

-- bytes, and zeros behind them up to a length
unfoldable pub padded : ℕ → List ℕ → List ℕ
padded n x = x ++ replicate (n - length x) 0

-- node k has got these rows: its numbers count them, and each of its parts holds what they make, and zeros behind
pub record Holds (s places : List ℕ) (f : State) (k : ℕ) (rs : Rows) : Type 0 where
  pub rows : get_or f.rows k 0 ≡ count rs
  pub spans : get_or f.spans k 0 ≡ total rs
  pub part : (i : ℕ) → i < 3 → part_bytes places f.out (3 * k + i) ≡ padded (part_len places (3 * k + i)) (node_part s k rs i)
  pub even : layout_of (code_of s k) ≡ FixedWidth → length (each_bytes (value_bytes (element_width s k)) rs) ≡ count rs * element_width s k
  pub texts : layout_of (code_of s k) ≡ VariableSize → length (each_bytes text_bytes rs) ≡ total rs
  pub bits : layout_of (code_of s k) ≡ Boolean → bits_number (each_number value_bit rs) < 2 ^ count rs

-- the parts of node k are long enough for n rows whose offsets go up to x
pub record Room (s places : List ℕ) (k n x : ℕ) : Type 0 where
  pub few : n ≤ most_elements
  pub near : layout_of (code_of s k) ≡ Lists → x ≤ most_elements
  pub bitmap : takes_bitmap (layout_of (code_of s k)) ≡ true → n ≤ 8 * part_len places (3 * k + 0)
  pub bits : layout_of (code_of s k) ≡ Boolean → n ≤ 8 * part_len places (3 * k + 1)
  pub values : layout_of (code_of s k) ≡ FixedWidth → n * element_width s k ≤ part_len places (3 * k + 1)
  pub text_offsets : layout_of (code_of s k) ≡ VariableSize → suc n * element_width s k ≤ part_len places (3 * k + 1)
  pub list_offsets : layout_of (code_of s k) ≡ Lists → suc n * element_width s k ≤ part_len places (3 * k + 1)
  pub text : layout_of (code_of s k) ≡ VariableSize → x ≤ part_len places (3 * k + 2)

-- there is room for the rows that each node is to get
pub record Rooms (s places : List ℕ) (g : ℕ → Rows) (f : State) : Type 0 where
  pub room : (j : ℕ) → j < node_count s → Room s places j (get_or f.rows j 0 + count (g j)) (get_or f.spans j 0 + total (g j))

-- node k holds some rows
pub record Held (s places : List ℕ) (f : State) (k : ℕ) : Type 0 where
  pub rows : Rows
  pub holds : Holds s places f k rows

-- what filling rests on: an accepted image of readable codes, places that rise and end inside the buffer, a number for each node
pub record Ready (s places : List ℕ) (f : State) : Type 0 where
  pub accepted : check_image s ≡ Ok tt
  pub coded : readable s ≡ true
  pub rise : (q r : ℕ) → q ≤ r → r ≤ 3 * node_count s → get_or places q 0 ≤ get_or places r 0
  pub inside : get_or places (3 * node_count s) 0 ≤ length f.out
  pub short : get_or places (3 * node_count s) 0 ≤ longest_image
  pub held : (k : ℕ) → k < node_count s → Held s places f k

-- node k is about to get a row whose offsets go on by x
pub record Getting (s places : List ℕ) (f : State) (k x : ℕ) : Type 0 where
  pub ready : Ready s places f
  pub node : k < node_count s
  pub room : Room s places k (get_or f.rows k 0 + 1) (get_or f.spans k 0 + x)

-- each node j has got the rows g j more, and nothing but the parts has changed
pub record Filled (s places : List ℕ) (g : ℕ → Rows) (f₀ f : State) : Type 0 where
  pub rows : (j : ℕ) → j < node_count s → get_or f.rows j 0 ≡ get_or f₀.rows j 0 + count (g j)
  pub spans : (j : ℕ) → j < node_count s → get_or f.spans j 0 ≡ get_or f₀.spans j 0 + total (g j)
  pub holds : (j : ℕ) (rs : Rows) → j < node_count s → Holds s places f₀ j rs → Holds s places f j (rows_then rs (g j))
  pub outside : (p : ℕ) → (p < get_or places 0 0) ⊎ (get_or places (3 * node_count s) 0 ≤ p) → byte_at f.out p ≡ byte_at f₀.out p
  pub long : length f.out ≡ length f₀.out

-- node k has got a row of a Struct that is not null, whatever its child rows; or a list of n rows
pub record StructFilled (s places : List ℕ) (k : ℕ) (f₀ f : State) : Type 0 where
  pub by : (qs : Rows) → Filled s places (own (joined qs) k) f₀ f

pub record ListFilled (s places : List ℕ) (k n : ℕ) (f₀ f : State) : Type 0 where
  pub by : (qs : Rows) → count qs ≡ n → Filled s places (own (counted qs) k) f₀ f

-- where the next row of node k goes
abbrev pub spot_of : List ℕ → List ℕ → List ℕ → ℕ → Spot
spot_of places rows spans k =
    record { bitmap = get_or places (3 * k + 0) 0; first = get_or places (3 * k + 1) 0; second = get_or places (3 * k + 2) 0; row = get_or rows k 0; span = get_or spans k 0 }

-- a string is read from a place on, and what follows is not wanted
pub record Reads {A : Type 0} (p : Parsed A) (x : A) : Type 0 where
  pub rest : List ℕ
  pub is : p ≡ parsed x rest

-- the layouts whose first buffer has offsets
abbrev pub has_offsets : Layout → Bool
has_offsets Null = false
has_offsets Boolean = false
has_offsets FixedWidth = false
has_offsets VariableSize = true
has_offsets View = false
has_offsets Lists = true
has_offsets ListView = false
has_offsets FixedList = false
has_offsets Struct = false
has_offsets DenseUnion = false
has_offsets SparseUnion = false
has_offsets Dictionary = false
has_offsets Runs = false

-- The parts of the image that n rows of a string make are to be filled: they stand where the image has them, and hold zeros.
pub record ToFill (s : List ℕ) (n : ℕ) (b places out : List ℕ) : Type 0 where
  pub accepted : check_image s ≡ Ok tt
  pub coded : readable s ≡ true
  pub read : rows_in s n b ≡ parsed (the_rows (rows_in s n b)) []
  pub few : (k : ℕ) → k < node_count s → count (column s (the_rows (rows_in s n b)) k) ≤ most_elements
  pub place : (q : ℕ) → q ≤ 3 * node_count s → get_or places q 0 ≡ part_start s (the_rows (rows_in s n b)) q
  pub inside : part_start s (the_rows (rows_in s n b)) (3 * node_count s) ≤ length out
  pub short : part_start s (the_rows (rows_in s n b)) (3 * node_count s) ≤ longest_image
  pub blank : (p : ℕ) → part_start s (the_rows (rows_in s n b)) 0 ≤ p → p < part_start s (the_rows (rows_in s n b)) (3 * node_count s) → byte_at out p ≡ 0

-- What a walk over rows of a string asks for: the string is read as x, and each node j has room for the rows g j that x gives it.
pub record ToWalk {A : Type 0} (s places : List ℕ) (p : Parsed A) (x : A) (g : ℕ → Rows) (f : State) : Type 0 where
  pub ready : Ready s places f
  pub reads : Reads p x
  pub rooms : Rooms s places g f

-- and what it has done: each node has got its rows, and this is what follows of the string
pub record Walked {A : Type 0} (s places : List ℕ) (p : Parsed A) (x : A) (g : ℕ → Rows) (f₀ f : State) (rest : List ℕ) : Type 0 where
  pub follows : p ≡ parsed x rest
  pub filled : Filled s places g f₀ f

-- the rows that a row gives, that n rows give, and that a row of each child gives, as they are read
abbrev pub row_gives : ℕ → List ℕ → ℕ → Parsed Row → ℕ → Rows
row_gives d s k p j = gives d s k (the_row p) j

abbrev pub rows_give : ℕ → List ℕ → ℕ → Parsed Rows → ℕ → Rows
rows_give d s k p j = from_each (λ q. gives d s k q j) (the_rows p)

-- what the row under a null gives
abbrev pub gap_gives : ℕ → List ℕ → ℕ → ℕ → Rows
gap_gives d s k j = gives d s k (gap_row s k) j

-- a row of node k with which a string begins, and n rows: what their walk asks for, and what it has done
pub record RowWalk (s places b : List ℕ) (d k : ℕ) (f : State) : Type 0 where
  pub node : k < node_count s
  pub walk : ToWalk s places (row_in d s k b) (the_row (row_in d s k b)) (row_gives d s k (row_in d s k b)) f

pub record RowWalked (s places b : List ℕ) (d k : ℕ) (f₀ f : State) (rest : List ℕ) : Type 0 where
  pub done : Walked s places (row_in d s k b) (the_row (row_in d s k b)) (row_gives d s k (row_in d s k b)) f₀ f rest

pub record RowsWalk (s places b : List ℕ) (d k n : ℕ) (f : State) : Type 0 where
  pub node : k < node_count s
  pub walk : ToWalk s places (rows_of (row_in d s k) n b) (the_rows (rows_of (row_in d s k) n b)) (rows_give d s k (rows_of (row_in d s k) n b)) f

pub record RowsWalked (s places b : List ℕ) (d k n : ℕ) (f₀ f : State) (rest : List ℕ) : Type 0 where
  pub done : Walked s places (rows_of (row_in d s k) n b) (the_rows (rows_of (row_in d s k) n b)) (rows_give d s k (rows_of (row_in d s k) n b)) f₀ f rest

-- What the functions ask of a filling x, and what a filling y is that they leave of it.
-- what x was made of is what y has: the places, and the buffer that is lent to it
pub record SameLent (x y : Filling) : Type 0 where
  pub places : y.places.now ≡ x.places.now
  pub out : y.out.ghost_name ≡ x.out.ghost_name

-- node k has one row more, and its offsets go up to this; the buffer is as it was
pub record Counted (k row span : ℕ) (x y : Filling) : Type 0 where
  pub same : SameLent x y
  pub out : y.out.now ≡ x.out.now
  pub rows : (state y).rows ≡ set (state x).rows k (row + 1)
  pub spans : (state y).spans ≡ set (state x).spans k span

-- node k can take a row whose offsets go on by n
abbrev pub CanTake : List ℕ → ℕ → ℕ → Filling → Type 0
CanTake s k n x = Getting s x.places.now (state x) k n

-- each node j has taken the rows g j
pub record Took (s : List ℕ) (g : ℕ → Rows) (x y : Filling) : Type 0 where
  pub same : SameLent x y
  pub filled : Filled s x.places.now g (state x) (state y)

-- node k has taken a row of a Struct that is not null, whatever its child rows; or a list of n rows
pub record TookStruct (s : List ℕ) (k : ℕ) (x y : Filling) : Type 0 where
  pub same : SameLent x y
  pub filled : StructFilled s x.places.now k (state x) (state y)

pub record TookList (s : List ℕ) (k n : ℕ) (x y : Filling) : Type 0 where
  pub same : SameLent x y
  pub filled : ListFilled s x.places.now k n (state x) (state y)

-- The walks: over the row under a null of node k, over a row of it with which a string begins, and over n rows.
pub record AtGap (s : List ℕ) (k d : ℕ) (x : Filling) : Type 0 where
  pub node : k < node_count s
  pub ready : Ready s x.places.now (state x)
  pub rooms : Rooms s x.places.now (gap_gives d s k) (state x)

abbrev pub AtRow : List ℕ → ℕ → ℕ → List ℕ → Filling → Type 0
AtRow s k d b x = RowWalk s x.places.now b d k (state x)

pub record PastRow (s : List ℕ) (k d : ℕ) (b : List ℕ) (x y : Filling) (rest : List ℕ) : Type 0 where
  pub same : SameLent x y
  pub walked : RowWalked s x.places.now b d k (state x) (state y) rest

abbrev pub AtRows : List ℕ → ℕ → ℕ → ℕ → List ℕ → Filling → Type 0
AtRows s k n d b x = RowsWalk s x.places.now b d k n (state x)

pub record PastRows (s : List ℕ) (k n d : ℕ) (b : List ℕ) (x y : Filling) (rest : List ℕ) : Type 0 where
  pub same : SameLent x y
  pub walked : RowsWalked s x.places.now b d k n (state x) (state y) rest
