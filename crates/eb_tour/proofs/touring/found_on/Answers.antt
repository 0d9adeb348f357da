use Rattle.std.proofs.Common.{◌≡◌, ap, ◌∙◌}
use Rattle.eb_base.specs.declared.width.Width.TheVariants.{W32}
use Rattle.wb_signals.specs.Cycles.{MasterCycles}
use Rattle.eb_session.specs.Keeping.{SessionState}
use Rattle.soc_bus.specs.View.{BusState}
use Rattle.soc_bus.specs.Local.{LocalOrigin, made_since}
use Rattle.soc_bus.proofs.LocalLemmas.{built_cycles}
use Rattle.eb_tour.proofs.PortLemmas.{built_legal, legal_of}
use Rattle.eb_tour.proofs.touring.found_on.Goals as goal

pub returns : goal.returns
returns c =
    let d = c.args.description.now in
    let port = c.new-port.result in
    let began = c.new-3.result.master in
    let left = c.in_ok-found.link.master in
    let first : c.new-3.result.session.slave ≡ c.in_ok-session.session.slave = λ i. (c.new-3.ensures.new i).session.slave in
    let slave : c.new-3.result.session.slave ≡ record { bus = W32; root = d.bus.sdb } = first ∙ ap (λ (s : SessionState). s.slave) c.in_ok-session.ensures.fresh ∙ c.slave_at.ensures.slave in
    let kept : LocalOrigin = record { began = left.began.value; description = left.bus.now.description } in
    let came : LocalOrigin = record { began = port.began.value; description = port.bus.now.description } in
    let there : record { began = began.began.value; description = began.bus.now.description } ≡ came =
    λ i. record { began = (c.new-3.ensures.new i).master.began.value; description = (c.new-3.ensures.new i).master.bus.now.description } in
    let same : kept ≡ came = (λ i. (c.in_ok-found.ensures.identity i).kept) ∙ there in
    let of_ = ap (λ (b : BusState). b.description) c.new-port.ensures.now ∙ c.in_ok-bus.ensures.description in
    let built = ap (λ (b : BusState). b.core) c.new-port.ensures.began ∙ c.in_ok-bus.ensures.core in
    let at_first : c.master.result.now.began.value ≡ left.began.value = λ i. (c.master.ensures.master i).began.value in
    let at_last : c.master.result.now.bus.now ≡ left.bus.now = λ i. (c.master.ensures.master i).bus.now in
    let own = legal_of c.master.result.now.began.value left.began.value c.master.result.now.bus.now left.bus.now at_first at_last c.entries_are_legal.ensures.legal in
    let legal = built_legal d kept came (made_since left.began.value left.bus.now) same of_ built own in
    record { found = c.in_ok-found.ensures.tours d c.requires.accepted slave c.slave_at.ensures.low legal }
