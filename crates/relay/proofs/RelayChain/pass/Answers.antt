use Rattle.std.proofs.Common.{◌≡◌, ◌<◌, ◌++◌, map, length, take, sym, ap, ◌∙◌, arith}
use Rattle.std.proofs.lemmas.List.{length-drop}
use Rattle.wire.specs.declared.event.Event.TheVariants.{Both}
use Rattle.wire.specs.Machine.{run}
use Rattle.wire.proofs.States.{after_run}
use Rattle.relay.specs.Relay.{chain, held}
use Rattle.relay.proofs.Chains.{delayed, delays, keeps}
use Rattle.relay.proofs.RelayChain.pass.Goals as goal

pub returns : goal.returns
returns c =
    let bs = held c.args.self.now.cells in
    let ws = c.args.buf.now in
    let some : 0 < length bs = simp length-drop (omega arith) in
    let ran = c.exchange_in_place.ensures.ran in
    let e : c.exchange_in_place.new.buf ≡ take (length ws) (bs ++ ws) = sym ran.gave ∙ delays bs ws some in
    record {
      value = e;
      delayed = delayed bs ws _ e;
      left = ran.left ∙ after_run chain bs (map Both ws) ∙ ap (run chain) (keeps bs ws some);
    }
