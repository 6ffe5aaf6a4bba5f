-- `acceptance::fulfilment` meets its contract: the bits of the untils passed are set where they are fulfilled.
-- Assumes nothing.
use Rattle.std.proofs.Common.{◌≡◌}
use Rattle.term.specs.Memory.{unpack}
use Rattle.acceptance.specs.Acceptance.{fulfils_next, bits_of}
use Rattle.acceptance.proofs.fulfilment.Given as goal

abbrev pub invariant-loop-k : goal.invariant-loop-k
invariant-loop-k l = l.byte ≡ bits_of (λ j. fulfils_next l.rule j (unpack l.t)) l.k
