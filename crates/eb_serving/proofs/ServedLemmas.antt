-- What serving the ports of a described bus came to, from its steps.
use Rattle.std.proofs.Common.{◌≡◌, ℕ, ◌+◌, ◌-◌, ◌≤◌, List, ◌++◌, length, take, drop, Option, Result, Ok, Err, inl, inr, refl, sym, ◌∙◌, ap, subst, arith}
use Rattle.std.specs.Result.{IsErr}
use Rattle.std.proofs.lemmas.List.{length-drop, take-append-drop}
use Rattle.eb_base.specs.declared.memory.NoMemory.{NoMemory}
use Rattle.soc_desc.specs.declared.description.Description.{Description}
use Rattle.eb_net.specs.Accepting.{DoorState}
use Rattle.eb_net.specs.Network.{Network}
use Rattle.eb_serve.specs.Serves.{ServeState, Serves}
use Rattle.eb_serve.specs.Text.{serve_text}
use Rattle.eb_serve.specs.Unclean.{first_unclean_port}
use Rattle.eb_serve.specs.declared.unclean.Unclean.{Unclean}
use Rattle.eb_text.specs.declared.fault.Fault.TheVariants as fault
use Rattle.eb_run.proofs.OpenLemmas.{same_parts}
use Rattle.eb_serving.specs.declared.fault.ServingFault.{ServingFault}
use Rattle.eb_serving.specs.declared.fault.ServingFault.TheVariants as serving
use Rattle.eb_serving.specs.ServingWords.{ServingAsk}
use Rattle.eb_serving.specs.Doors.{MadeDoors, StopsAtDoor, ServesLast}
use Rattle.eb_serving.specs.ServingRuns.{PortRun, ServesPorts, TellsServed}

-- There was no memory to take the last doors out of the net.
pub unserved_last : {D P L : Type 0} (state : D → DoorState) (d : Description) (connections count : ℕ) (old new : Network D P L) (r : Result ServeState NoMemory) → count ≤ length old.doors → new ≡ old → IsErr r
    → ServesLast state d connections count old new r
unserved_last state d connections count old new (Ok served) there same is = absurd (cc)
unserved_last state d connections count old new (Err none) there same is =
    let at = length old.doors - count in
    let parts = take-append-drop at old.doors in
    record {
      others = take at old.doors;
      doors = drop at old.doors;
      doors' = drop at old.doors;
      old_are = sym parts;
      as_many = length-drop at old.doors ∙ (let left : length old.doors - at ≡ count = omega (arith, there) in left);
      new_is = same ∙ (λ i. record old { doors = sym parts i });
      served = tt;
      refused = refl;
    }

module _ {D P L : Type 0} (run : PortRun D P L) (d : Description) (ask : ServingAsk) (enough : ask.port + d.masters ≤ 65536) where
  pub comes_unmade : (f : ServingFault) → StopsAtDoor run.state run.net run.net' ask.port d.masters f → run.out' ≡ run.out → ServesPorts run d ask (Err f)
  comes_unmade f stops out = inr (inl (enough, f, refl, stops, out))

  module _ (mid : Network D P L) (made : MadeDoors run.state run.net mid ask.port d.masters) where
    parts : (ran : Result ServeState NoMemory) → (last : ServesLast run.state d ask.count d.masters mid run.net' ran) → (run.net.doors ≡ last.others) × (made.made ≡ last.doors)
    parts ran last =
        same_parts run.net.doors made.made last.others last.doors (sym (ap (λ (n : Network D P L). n.doors) made.net_is) ∙ last.old_are) (made.as_many ∙ sym last.as_many)

    net_is : (ran : Result ServeState NoMemory) → (last : ServesLast run.state d ask.count d.masters mid run.net' ran) → run.net' ≡ record mid { doors = run.net.doors ++ last.doors' }
    net_is ran last = last.new_is ∙ (λ i. record mid { doors = sym (parts ran last).0 i ++ last.doors' })

    pub comes_served : (r : ServeState) (result : Result (Option Unclean) ServingFault) → ServesLast run.state d ask.count d.masters mid run.net' (Ok r)
        → TellsServed run.out run.out' (serve_text r) (first_unclean_port r.ports) result → ServesPorts run d ask result
    comes_served r result last tells =
        inr (inr (
          enough,
          record {
            between = mid;
            making = made;
            doors = last.doors';
            net_is = net_is (Ok r) last;
            came = inr (r, subst (λ (l : List D). Serves run.state d ask.count l last.doors' r) (sym (parts (Ok r) last).1) last.served, tells);
          },
        ))

    pub comes_unserved : (none : NoMemory) → ServesLast run.state d ask.count d.masters mid run.net' (Err none) → run.out' ≡ run.out → ServesPorts run d ask (Err (serving.Common fault.NoMemory))
    comes_unserved none last out =
        inr (inr (
          enough,
          record {
            between = mid;
            making = made;
            doors = last.doors';
            net_is = net_is (Err none) last;
            came = inl (refl, last.refused ∙ sym (parts (Err none) last).1, out);
          },
        ))
