-- Replies: "One output line each, without spaces: 00, then 01 or 00 for yes or no, or the written bytes; or the refusal's
-- byte, then for 10 to 18 the node as u16, for 21 the side."; 19 is as 18, "in the session too".
use Rattle.std.specs.Prelude.{Bool, cond, List, [], ◌∷◌, ◌++◌, ℕ, ◌+◌, ◌/◌, ◌%◌, take, ltb, Result, Ok, Err}
use Rattle.image.specs.declared.answer.Side.{Side}
use Rattle.answers.specs.declared.SideFault.{SideFault}
use Rattle.answers.specs.declared.RangeRefusal.{RangeRefusal}
use Rattle.answers.specs.declared.RangeRefusal.TheVariants.{Image as RangeImage, UnequalTypes as RangeUnequal, OutOfRange as RangeOut}
use Rattle.answers.specs.declared.WriteRefusal.{WriteRefusal}
use Rattle.answers.specs.declared.WriteRefusal.TheVariants.{Image as WriteImage, OutOfRange as WriteOut, TooLong as WriteLong}
use Rattle.image.specs.Bytes.{number_bytes}
use Rattle.answers.specs.Numbers.{side_number, yes_value}
use Rattle.session.specs.declared.frame.FrameFault.{FrameFault}
use Rattle.session.specs.declared.frame.FrameFault.TheVariants.{NotHexadecimal, UnknownCommand, WrongForm}
use Rattle.session.specs.declared.reply.Reply.{Reply}
use Rattle.session.specs.declared.reply.Reply.TheVariants.{Done, Answer, Bytes}
use Rattle.session.specs.declared.reply.Refusal.{Refusal}
use Rattle.session.specs.declared.reply.Refusal.TheVariants.{NoFrame, Faulty, UnequalTypes, OutOfRange, PastStore, Closed, Open, TooLong}

-- what a line is answered with: a reply, or why it is refused
abbrev pub Replied : Type 0
Replied = Result Reply Refusal

-- the reply to what a comparison of tables answers
abbrev pub compared_reply : Result Bool SideFault → Replied
compared_reply (Ok equal) = Ok (Answer equal)
compared_reply (Err e) = Err (Faulty e.fault)

-- why a comparison of ranges is refused, as a line's refusal
abbrev pub range_refusal : RangeRefusal → Refusal
range_refusal (RangeImage e) = Faulty e.fault
range_refusal RangeUnequal = UnequalTypes
range_refusal (RangeOut side) = OutOfRange side

-- the reply to what a comparison of ranges answers
abbrev pub ranges_reply : Result Bool RangeRefusal → Replied
ranges_reply (Ok equal) = Ok (Answer equal)
ranges_reply (Err e) = Err (range_refusal e)

-- the reply to what a write of a side's rows answers
abbrev pub written_reply : Result ℕ WriteRefusal → Side → Replied
written_reply (Ok n) side = Ok (Bytes n)
written_reply (Err (WriteImage f)) side = Err (Faulty f)
written_reply (Err WriteOut) side = Err (OutOfRange side)
written_reply (Err WriteLong) side = Err TooLong

-- "1 not hexadecimal, 2 .., 3 .."
abbrev pub frame_fault_number : FrameFault → ℕ
frame_fault_number NotHexadecimal = 1
frame_fault_number UnknownCommand = 2
frame_fault_number WrongForm = 3

-- the number of a refusal
abbrev pub refusal_number : Refusal → ℕ
refusal_number (NoFrame fault) = frame_fault_number fault
refusal_number (Faulty f) = f.number
refusal_number UnequalTypes = 20
refusal_number (OutOfRange side) = 21
refusal_number PastStore = 40
refusal_number Closed = 41
refusal_number Open = 42
refusal_number TooLong = 43

-- what follows it: for 10 to 19 the node, for 21 the side
abbrev pub refusal_rest : Refusal → List ℕ
refusal_rest (NoFrame fault) = []
refusal_rest (Faulty f) = number_bytes 2 f.node
refusal_rest UnequalTypes = []
refusal_rest (OutOfRange side) = side_number side ∷ []
refusal_rest PastStore = []
refusal_rest Closed = []
refusal_rest Open = []
refusal_rest TooLong = []

-- the bytes of a refusal
abbrev pub refusal_bytes : Refusal → List ℕ
refusal_bytes refusal = refusal_number refusal ∷ refusal_rest refusal

-- the bytes of a reply; the written bytes stand at the output's front
abbrev pub answer_bytes : Reply → List ℕ → List ℕ
answer_bytes Done out = 0 ∷ []
answer_bytes (Answer agreed) out = 0 ∷ yes_value agreed ∷ []
answer_bytes (Bytes n) out = 0 ∷ take n out

-- the bytes of what a line is answered with
abbrev pub reply_bytes : Replied → List ℕ → List ℕ
reply_bytes (Ok reply) out = answer_bytes reply out
reply_bytes (Err refusal) out = refusal_bytes refusal

-- the character of a digit
unfoldable pub digit_text : ℕ → ℕ
digit_text x = cond (ltb x 10) (48 + x) (87 + x % 16)

-- the characters of bytes
unfoldable pub hex_text : List ℕ → List ℕ
hex_text [] = []
hex_text (x ∷ xs) = digit_text (x / 16) ∷ digit_text (x % 16) ∷ hex_text xs

-- bytes as a line
unfoldable pub line_text : List ℕ → List ℕ
line_text bytes = hex_text bytes ++ (10 ∷ [])

-- the line that a reply is printed as
unfoldable pub reply_line : Replied → List ℕ → List ℕ
reply_line reply out = line_text (reply_bytes reply out)
