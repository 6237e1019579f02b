-- `fault_19` tells whether the node has fault 19.
-- A node that holds no text has none; any other goes by its views or its texts.
use Rattle.validate.proofs.TextRows.{no_text, text_node, text_fault}
use Rattle.validate.proofs.texts.fault_19.Goals as goal

pub returns-then-not-is_text : goal.returns-then-not-is_text
returns-then-not-is_text c = no_text _ _ c.code-code.ensures.value c.is_text.ensures c.if-not-is_text.true

pub returns-then-code-eq-UTF8_VIEW : goal.returns-then-code-eq-UTF8_VIEW
returns-then-code-eq-UTF8_VIEW c = text_fault (text_node _ _ c.code-code.ensures.value c.is_text.ensures c.requires.0 c.requires.1 c.if-not-is_text.false) (rw c.new.ensures at c.any_ill_formed.ensures)

pub returns : goal.returns
returns c = text_fault (text_node _ _ c.code-code.ensures.value c.is_text.ensures c.requires.0 c.requires.1 c.if-not-is_text.false) (rw c.new-2.ensures at c.any_ill_formed-2.ensures)
