-- `put_table` puts the image: its front, zeros behind it, and the parts over them.
-- The parts begin where the front ends, and take as many bytes as there are zeros.
use Rattle.builder.proofs.Fields.{zeros_over}
use Rattle.builder.proofs.Tables.{laid_front, laid_clear, laid_fill, laid_put}
use Rattle.builder.proofs.put_table.Goals as goal

pub put_front-parts-requires : goal.put_front-parts-requires
put_front-parts-requires c = laid_front c.requires

pub fill-requires-2 : goal.fill-requires-2
fill-requires-2 c = laid_fill c.requires (c.put_front-parts.ensures.value, c.put_front-parts.ensures.out_after) (zeros_over _ _ _ (laid_clear c.requires (c.put_front-parts.ensures.value, c.put_front-parts.ensures.out_after)) (c.fill.ensures.after (λ y e. e)))

pub returns : goal.returns
returns c = laid_put c.requires (c.put_front-parts.ensures.value, c.put_front-parts.ensures.out_after) (zeros_over _ _ _ (laid_clear c.requires (c.put_front-parts.ensures.value, c.put_front-parts.ensures.out_after)) (c.fill.ensures.after (λ y e. e))) c.fill-2.ensures
