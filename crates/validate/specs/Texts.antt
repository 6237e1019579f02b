-- What is read once of a node whose rows are text, and what is read of a row.
use Rattle.std.specs.Prelude.{◌≡◌, Bool, true, false, ◌&&◌, List, ℕ, ◌+◌, ◌*◌, ◌<◌, ◌≤◌, eqb, ltb}
use Rattle.std.specs.Borrow.{Bor}
use Rattle.image.specs.Bytes.{byte_at, bytes_at}
use Rattle.image.specs.Record.{node_count, code_of, length_of, offset_of, buffer_count, buffer_place, buffer_length}
use Rattle.image.specs.TypeCode.{is_text}
use Rattle.image.specs.Element.{valid, element_width, element_at}
use Rattle.image.specs.Utf8.{has, tail, well_formed}
use Rattle.laws.specs.Accepted.{NoneBelow}
use Rattle.utf8.specs.Ascii.{any_high}
use Rattle.image.specs.declared.bytes.Numbers.{Numbers}
use Rattle.validate.specs.declared.texts.Buffers.{Buffers}
use Rattle.validate.specs.declared.texts.Buffers.TheVariants.{Formed, Plain}

-- a node of text, of an image that has none of the faults up to 18
pub record TextNode (s : List ℕ) (k : ℕ) : Type 0 where
  pub below : NoneBelow 19 s
  pub node : k < node_count s
  pub text : is_text (code_of s k) ≡ true

-- one whose rows are views, and one whose rows are texts between offsets
pub record ViewNode (s : List ℕ) (k : ℕ) : Type 0 where
  pub text : TextNode s k
  pub views : eqb (code_of s k) 31 ≡ true

pub record OffsetNode (s : List ℕ) (k : ℕ) : Type 0 where
  pub text : TextNode s k
  pub no_views : eqb (code_of s k) 31 ≡ false

-- the offsets from row 0's on, and where the text starts that they count in
pub record TextsRead (s : List ℕ) (k : ℕ) (offsets : Numbers) (from : ℕ) : Type 0 where
  pub bytes : offsets.bytes.now ≡ s
  pub width : offsets.width ≡ element_width s k
  pub place : offsets.place ≡ buffer_place s k 0 + offset_of s k * offsets.width
  pub start : from ≡ buffer_place s k 1

-- a row that is not null
pub record TextRow (s : List ℕ) (k i : ℕ) : Type 0 where
  pub row : i < length_of s k
  pub not_null : valid s k i ≡ true

-- of the buffers before number n each data buffer, those from number 1 on, is as P says
pub record EachBuffer (P : ℕ → Type 0) (n : ℕ) : Type 0 where
  pub each : (j : ℕ) → 1 ≤ j → j < n → P j

-- the bytes of buffer j
abbrev pub buffer_bytes : List ℕ → ℕ → ℕ → List ℕ
buffer_bytes s k j = bytes_at s (buffer_place s k j) (buffer_length s k j)

-- where a test of bytes answers yes, so does p
abbrev pub TellsBytes : (Bor (List ℕ) → Bool → Type 0) → (List ℕ → Bool) → Type 0
TellsBytes answers p = (bytes : Bor (List ℕ)) → answers bytes true → p bytes.now ≡ true

-- buffer j has no byte above 7F; it is well-formed as one text
abbrev pub plain_buffer : List ℕ → ℕ → ℕ → Type 0
plain_buffer s k j = any_high (buffer_bytes s k j) ≡ false

abbrev pub formed_buffer : List ℕ → ℕ → ℕ → Type 0
formed_buffer s k j = well_formed (buffer_bytes s k j) ≡ true

-- what was found of the data buffers is so
pub record Found (s : List ℕ) (k : ℕ) (found : Buffers) : Type 0 where
  pub formed : found ≡ Formed → EachBuffer (formed_buffer s k) (buffer_count s k)
  pub plain : found ≡ Plain → EachBuffer (plain_buffer s k) (buffer_count s k)

-- where the text of row i starts, by its offset
abbrev pub text_start : List ℕ → ℕ → ℕ → ℕ
text_start s k i = buffer_place s k 1 + element_at s k (offset_of s k + i)

-- before an end, the text of row i starts with a tail
unfoldable pub splits : List ℕ → ℕ → ℕ → ℕ → Bool
splits s k end i = ltb (text_start s k i) end && has tail (byte_at s (text_start s k i))
