-- A device as contracts see it.
use Rattle.eb_base.specs.declared.width.Width.{Width}
use Rattle.wb_signals.specs.Content.{Content}

-- the width of its bus, and what it holds
pub record DeviceState : Type 0 where
  pub bus : Width
  pub content : Content

abbrev pub on_bus : Width → Content → DeviceState
on_bus bus content = record { bus = bus; content = content }
