use Rattle.lines.proofs.any.AnyLineLine.receive.Goals as goal

pub returns-in-Relay : goal.returns-in-Relay
returns-in-Relay c = record { ran = rw c.in-Relay.is c.receive.ensures.ran }

pub returns-in-Script : goal.returns-in-Script
returns-in-Script c = record { ran = rw c.in-Script.is c.receive-in-Script.ensures.ran }
