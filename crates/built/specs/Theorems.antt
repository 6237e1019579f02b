-- What is shown of tables built from written rows: the rows that a string is, what a built image keeps of the given one and
-- what its rows are, and what reading a written range builds.
use Rattle.std.specs.Prelude.{◌≡◌, true, List, [], ◌++◌, ℕ, ◌+◌, ◌≤◌, ◌<◌, length, take, drop, Ok}
use Rattle.image.specs.Record.{max_depth, node_count, code_of, id_of, p1_of, p2_of, length_of, first_child, child_count, nullable}
use Rattle.image.specs.Types.{name_of, types_agree}
use Rattle.image.specs.Row.{Rows, table_rows}
use Rattle.image.specs.RowBytes.{count, rows_bytes, range_bytes}
use Rattle.image.specs.Faults.{check_image}
use Rattle.image.specs.Parse.{parsed, readable, rows_in}
use Rattle.answers.specs.Answers.{write_answer, write_output, build_output}
use Rattle.built.specs.Typed.{all_rows, is_row}

-- b is the bytes of these n rows, each a row of the type that s has
pub record BytesOf (s : List ℕ) (n : ℕ) (b : List ℕ) (rs : Rows) : Type 0 where
  pub typed : all_rows (is_row max_depth s 0) rs ≡ true
  pub many : count rs ≡ n
  pub bytes : rows_bytes rs ≡ b

-- "Its types, p1, p2, names and nullable flags are those of the given image": node k of t, and of the given image s
pub record NodeKept (s t : List ℕ) (k : ℕ) : Type 0 where
  pub code : code_of t k ≡ code_of s k
  pub p1 : p1_of t k ≡ p1_of s k
  pub p2 : p2_of t k ≡ p2_of s k
  pub name : name_of t k ≡ name_of s k
  pub flag : nullable t k ≡ nullable s k
  pub id : id_of t k ≡ id_of s k
  pub first : first_child t k ≡ first_child s k
  pub children : child_count t k ≡ child_count s k

-- the image that a call which answers m put out: the first m bytes of the buffer afterwards
abbrev pub built_in : List ℕ → ℕ → List ℕ → List ℕ → ℕ → List ℕ
built_in s n b out m = take m (build_output s n b out)

-- t is a table of the type of s whose n rows are those that the string b is
pub record TableOf (s : List ℕ) (n : ℕ) (b t : List ℕ) : Type 0 where
  pub accepted : check_image t ≡ Ok tt
  pub nodes : node_count t ≡ node_count s
  pub node : (k : ℕ) → k < node_count s → NodeKept s t k
  pub types : types_agree s t ≡ true
  pub many : length_of t 0 ≡ n
  pub rows : rows_in s n b ≡ parsed (table_rows t 0 n) []
  -- "Writing the built table gives the string again."
  pub written : range_bytes t 0 n ≡ b
  pub write : (out : List ℕ) → length b ≤ length out → write_answer t 0 n out ≡ Ok (length b)
  pub put : (out : List ℕ) → length b ≤ length out → write_output t 0 n out ≡ b ++ drop (length b) out

-- n rows of a table t from row i on, and an image s of its type, by which they can be read when they are written
pub record ReadRange (s t : List ℕ) (i n : ℕ) : Type 0 where
  pub given : check_image s ≡ Ok tt
  pub coded : readable s ≡ true
  pub table : check_image t ≡ Ok tt
  pub types : types_agree s t ≡ true
  pub within : i + n ≤ length_of t 0
