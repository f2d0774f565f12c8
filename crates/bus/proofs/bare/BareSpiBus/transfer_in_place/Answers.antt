use Rattle.bus.proofs.Boths.{ran_bare}
use Rattle.bus.proofs.bare.BareSpiBus.transfer_in_place.Goals as goal

pub returns : goal.returns
returns g c = record { ran = ran_bare (g.L.Line.answers c.args.self.now.line) _ c.exchange_in_place.ensures.ran }
