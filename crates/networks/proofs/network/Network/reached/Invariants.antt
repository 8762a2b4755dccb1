use Rattle.std.proofs.Common.{◌≡◌, ◌^◌}
use Rattle.networks.specs.Networks.{links_of, rounds}
use Rattle.networks.proofs.network.Network.reached.Given as goal

-- so many rounds are done
abbrev pub invariant-loop : goal.invariant-loop
invariant-loop l = l.reached.number ≡ rounds l.counter l.state.number (links_of l.self) (2 ^ l.self.from.number)
