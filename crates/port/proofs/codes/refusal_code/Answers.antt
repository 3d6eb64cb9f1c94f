-- `codes::refusal_code` is the number, which fits a byte.
use borrow.Author.Rules.{rules}
use Rattle.port.proofs.Numbers.{number_low}
use Rattle.port.proofs.codes.refusal_code.Goals as goal

pub overflow_cast-result : goal.overflow_cast-result
overflow_cast-result c = let h = number_low c.args.refusal in search (rules, h)
