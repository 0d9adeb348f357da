-- What a session's fields stand for.
use Rattle.std.specs.Prelude.{◌≡◌, ◌≤◌, None, IfSome, length, vec_capacity}
use Rattle.eb_base.specs.Width.{octets}
use Rattle.eb_session.specs.declared.session.Session.TheInside.{Inside}
use Rattle.eb_session.specs.Replies.{sets_of}
use Rattle.eb_session.specs.Keeping.{SessionState}

abbrev pub state_in : Inside → SessionState
state_in a = record { slave = a.slave; progress = a.decoder; errors = a.errors; reply = a.reply.items; ending = a.ending }

pub record IsSound (a : Inside) : Type 0 where
  pub sets : a.decoder.sets ≡ sets_of a.slave.bus
  pub fault : a.ending ≡ None → a.decoder.fault ≡ None
  pub narrow : IfSome a.decoder.header (λ h. octets h.port ≤ octets a.slave.bus)
  pub ops : 510 ≤ vec_capacity a.ops
  pub reply : 2056 ≤ vec_capacity a.reply
  pub most : length a.reply.items ≤ 2056
