use Rattle.std.proofs.Common.{ℕ, List, ◌-◌, ◌∙◌, ap}
use Rattle.eb_base.specs.Field.{octets_of, number_at}
use Rattle.eb_session.proofs.ConfigurationLemmas.{in_first, in_second}
use Rattle.eb_session.proofs.configuration.octets_at.Goals as goal

pub returns-then-at-lt8 : goal.returns-then-at-lt8
unfolding octets_of
returns-then-at-lt8 c =
    let a = c.args in
    record {
      value = c.get.ensures ∙ ap (λ (l : List ℕ). number_at a.port l a.at) c.to_be_bytes.ensures ∙ in_first a.port a.root a.errors a.at c.requires.aligned c.if-at-lt8.true;
    }

pub returns-then-at-lt16 : goal.returns-then-at-lt16
unfolding octets_of
returns-then-at-lt16 c =
    let a = c.args in
    record {
      value = c.get-then-at-lt16.ensures ∙ ap (λ (l : List ℕ). number_at a.port l (a.at - 8)) c.to_be_bytes-then-at-lt16.ensures ∙ in_second a.port a.root a.errors a.at c.if-at-lt8.false c.if-at-lt16.true;
    }
