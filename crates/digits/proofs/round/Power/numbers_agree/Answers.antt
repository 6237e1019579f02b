-- `numbers_agree` compares two stored numbers, divided.
-- Their sizes decide, and unless these are 0 their signs.
use Rattle.digits.proofs.Sizes.{left_fits, right_fits, sizes_decide}
use Rattle.digits.proofs.round.Power.numbers_agree.Goals as goal

pub size_of-requires : goal.size_of-requires
size_of-requires c = left_fits c.requires c.sign_bit-sign.ensures

pub size_of-requires-2 : goal.size_of-requires-2
size_of-requires-2 c = right_fits c.requires c.sign_bit-sign.ensures

pub returns : goal.returns
returns c = sizes_decide c.requires c.sign_bit-sign.ensures c.args.self.divides.some c.size_of.ensures.0 c.to_nearest-left.ensures c.size_of-2.ensures.0 c.to_nearest-right.ensures
