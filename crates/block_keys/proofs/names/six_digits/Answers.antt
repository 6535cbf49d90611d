use Rattle.block_keys.proofs.NameText.{six_digits-is}
use Rattle.block_keys.proofs.names.six_digits.Goals as goal

pub returns : goal.returns
returns c = rw (six_digits-is c.args.number, c.digit_of.ensures, c.digit_of-2.ensures, c.digit_of-3.ensures, c.digit_of-4.ensures, c.digit_of-5.ensures, c.digit_of-6.ensures)
