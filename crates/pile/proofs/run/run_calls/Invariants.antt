use Rattle.bus.specs.Calls.{calls_of}
use Rattle.pile.proofs.Turns.{Going}
use Rattle.pile.proofs.run.run_calls.Given as goal

abbrev pub invariant-loop-call : goal.invariant-loop-call
invariant-loop-call g l =
    let bus = g.P.SpiBus in
    Going (record { answers = bus.answers l.initial.pile; idle = bus.idle l.initial.pile }) (calls_of l.initial.calls) l.call-index (calls_of l.calls) (record { answers = bus.answers l.pile; idle = bus.idle l.pile })
