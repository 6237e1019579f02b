-- Demand 3 in the answers of the calls: two writes of equally many rows of tables of equal type, and what each put out.
use Rattle.std.specs.Prelude.{◌≡◌, true, List, ℕ, take, Ok}
use Rattle.image.specs.Types.{types_agree}
use Rattle.answers.specs.Answers.{write_answer, write_output}

-- the write of n rows of s from row i on into the buffer out, and that of n rows of t from row j on into the buffer over,
-- answer that v and w bytes were written, and the types of s and t agree
pub record BothWritten (s t : List ℕ) (i j n : ℕ) (out over : List ℕ) (v w : ℕ) : Type 0 where
  pub left : write_answer s i n out ≡ Ok v
  pub right : write_answer t j n over ≡ Ok w
  pub types : types_agree s t ≡ true

-- what a write that answers v put out: the first v bytes of the buffer afterwards
abbrev pub put_out : List ℕ → ℕ → ℕ → List ℕ → ℕ → List ℕ
put_out s i n out v = take v (write_output s i n out)
