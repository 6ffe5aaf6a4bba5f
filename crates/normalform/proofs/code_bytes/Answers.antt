-- `normalform::code_bytes` meets its contract: a constant's bytes, or those of the node that the code names.
-- Assumes nothing.
use Rattle.normalform.specs.Written.{written_tree}
use Rattle.normalform.specs.Memory.{number_in}
use Rattle.normalform.proofs.Entries.{constant_made}
use Rattle.normalform.proofs.code_bytes.Goals as goal

pub returns-then-c-lt2 : goal.returns-then-c-lt2
returns-then-c-lt2 c =
    constant_made (number_in c.args.numbers.now) (written_tree c.args.rule.now.bytes.now) c.args.c c.if-c-lt2.true
