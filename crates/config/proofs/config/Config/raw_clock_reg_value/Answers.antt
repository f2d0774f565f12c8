use Rattle.clock.proofs.Laws.{clocked}
use Rattle.config.proofs.config.Config.raw_clock_reg_value.Goals as goal

pub returns : goal.returns
returns c = let s = c.args.self.now in record { value = s.own; law = rw s.own (clocked s.settings.source s.settings.frequency) }
