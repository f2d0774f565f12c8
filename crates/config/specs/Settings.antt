-- The settings of a configuration, and what each change of one leaves.
use Rattle.std.specs.Prelude.{ℕ}
use Rattle.config.specs.declared.mode.Mode.{Mode}
use Rattle.config.specs.declared.mode.BitOrder.{BitOrder}
use Rattle.config.specs.declared.settings.Settings.{Settings}

abbrev pub holding : ℕ → ℕ → Mode → BitOrder → BitOrder → Settings
holding s f m reading writing = record { source = s; frequency = f; mode = m; read_bit_order = reading; write_bit_order = writing }

abbrev pub with_source : Settings → ℕ → Settings
with_source t s = holding s t.frequency t.mode t.read_bit_order t.write_bit_order

abbrev pub with_frequency : Settings → ℕ → Settings
with_frequency t f = holding t.source f t.mode t.read_bit_order t.write_bit_order

abbrev pub with_mode : Settings → Mode → Settings
with_mode t m = holding t.source t.frequency m t.read_bit_order t.write_bit_order

abbrev pub with_reading : Settings → BitOrder → Settings
with_reading t o = holding t.source t.frequency t.mode o t.write_bit_order

abbrev pub with_writing : Settings → BitOrder → Settings
with_writing t o = holding t.source t.frequency t.mode t.read_bit_order o
