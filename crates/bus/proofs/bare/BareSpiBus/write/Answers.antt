use Rattle.bus.proofs.Boths.{left_bare}
use Rattle.bus.proofs.bare.BareSpiBus.write.Goals as goal

pub returns : goal.returns
returns g c = record { left = left_bare (g.L.Line.answers c.args.self.now.line) _ c.send.ensures.left }
