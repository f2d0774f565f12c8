use Rattle.std.proofs.Common.{arith}
use Rattle.bus.specs.Calls.{calls_of}
use Rattle.pile.specs.Piles.{Performed}
use Rattle.pile.proofs.Beneath.{beneath_performed}
use Rattle.pile.proofs.Parity.{same_performed}
use Rattle.pile.proofs.Turns.{more, performed}
use Rattle.pile.proofs.run.run_calls.Goals as goal

pub loop-call-preserved : goal.loop-call-preserved
loop-call-preserved g c =
    let done = c.perform.ensures in
    more c.loop-call.calls c.loop-call.invariant c.call-item.result (omega arith) c.perform.new.call (g.P.SpiBus.causal c.loop-call.pile) done.answered done.left done.rests

pub returns : goal.returns
returns g c =
    let before = c.args.pile.now in
    let afterwards = c.loop-call.pile in
    let laws = g.met.P.Pile in
    let ks = g.P.Pile.layers in
    let u = g.P.Pile.beneath before in
    let v = g.P.Pile.beneath afterwards in
    let bus = performed c.loop-call.calls c.loop-call.invariant (omega arith) in
    let below : Performed ks (calls_of c.args.calls.now) (calls_of c.loop-call.calls) u v =
    beneath_performed ks u v (laws.through before) (laws.through afterwards) (laws.rests before) (laws.rests afterwards) bus in
    record { is_bus = bus; performed = below; parity = λ ls alike. same_performed ks ls alike below }
