-- `mqom::fields::repetition` meets its contract: a part of the field's part, or past the 17th none. Assumes nothing.
use mathlib.Core.Path.{◌∙◌, sym}
use borrow.Author.Rules.{rules}
use Rattle.mqom.proofs.Parts.{repetition-at, repetition-past}
use Rattle.mqom.proofs.fields.repetition.Goals as goal

pub returns-then-e-lt17 : goal.returns-then-e-lt17
returns-then-e-lt17 c = c.piece.ensures ∙ repetition-at _ _ _ _ (search rules) c.if-e-lt17.true

pub returns-else-e-lt17 : goal.returns-else-e-lt17
returns-else-e-lt17 c = sym (repetition-past _ _ _ _ c.if-e-lt17.false)
