-- What is said of the data buffers is so.
-- It is what the test says of each of them.
use mathlib.Core.Bool.{not}
use borrow.Author.Rules.{rules}
use Rattle.utf8.specs.Ascii.{any_high}
use Rattle.image.specs.Utf8.{well_formed}
use Rattle.validate.proofs.TextRows.{each_plain}
use Rattle.validate.proofs.texts.buffers_of.Goals as goal

pub returns-then-each_buffer : goal.returns-then-each_buffer
returns-then-each_buffer c = record { formed = λ e. cc; plain = λ e. each_plain _ _ (c.each_buffer.ensures (λ b. not (any_high b)) (λ bytes told. search rules) c.if-each_buffer.true) }

pub returns-then-each_buffer-2 : goal.returns-then-each_buffer-2
returns-then-each_buffer-2 c = record { formed = λ e. c.each_buffer-then-bytes_shared.ensures well_formed (λ bytes told. search rules) c.if-each_buffer-2.true; plain = λ e. cc }
