-- What a recorder keeps of an event that passes.
use Rattle.std.specs.Prelude.{◌≡◌, true, ◌⊎◌, [], ◌∷◌, ◌++◌}
use Rattle.wire.specs.declared.event.Event.{Event}
use Rattle.wire.specs.declared.recorder.Log.{Log}

-- e joins the events kept and the mark stays, or it does not join and is marked as missed
abbrev pub Noted : Event → Log → Log → Type 0
Noted e log log' =
    ((log'.events.items ≡ log.events.items ++ e ∷ []) × (log'.missed ≡ log.missed))
    ⊎ ((log'.events.items ≡ log.events.items) × (log'.missed ≡ true))
