-- What serving the post of a described bus came to, from its steps.
use Rattle.std.proofs.Common.{◌≡◌, Option, Some, Result, Ok, Err, inl, inr, refl, sym, ◌∙◌, ap, subst}
use Rattle.eb_base.specs.declared.memory.NoMemory.{NoMemory}
use Rattle.soc_desc.specs.declared.description.Description.{Description}
use Rattle.eb_net.specs.Network.{Network}
use Rattle.eb_serve.specs.Datagrams.{PostState, ServesDatagrams}
use Rattle.eb_serve.specs.DatagramText.{datagrams_text}
use Rattle.eb_serve.specs.Unclean.{first_unclean_of}
use Rattle.eb_serve.specs.declared.unclean.Unclean.{Unclean}
use Rattle.eb_text.specs.declared.fault.Fault.TheVariants as fault
use Rattle.eb_serving.specs.declared.fault.ServingFault.{ServingFault}
use Rattle.eb_serving.specs.declared.fault.ServingFault.TheVariants as serving
use Rattle.eb_serving.specs.ServingWords.{ServingAsk}
use Rattle.eb_serving.specs.Posts.{MadePost, ServesNetPost}
use Rattle.eb_serving.specs.ServingRuns.{PortRun, unclean_datagram, ServesPost, TellsServed}

module _ {D P L : Type 0} (run : PortRun D P L) (d : Description) (ask : ServingAsk) (mid : Network D P L) (made : MadePost run.posting run.net mid ask.port) where
  same_post : (ran : Result PostState NoMemory) → (last : ServesNetPost run.posting d ask.count mid run.net' ran) → made.post ≡ last.post
  same_post ran last =
      let both : Some made.post ≡ Some last.post = sym (ap (λ (n : Network D P L). n.post) made.made) ∙ last.old_is in
      let same : made.post ≡ last.post = cc both in
      same

  pub comes_answered : (r : PostState) (result : Result (Option Unclean) ServingFault) → ServesNetPost run.posting d ask.count mid run.net' (Ok r)
      → TellsServed run.out run.out' (datagrams_text r) (unclean_datagram (first_unclean_of r.ends.endings)) result → ServesPost run d ask result
  comes_answered r result last tells =
      inr (record {
        between = mid;
        making = made;
        post = last.post';
        net_is = last.new_is;
        came = inr (r, subst (λ (p : P). ServesDatagrams d ask.count (run.posting p) (run.posting last.post') r) (sym (same_post (Ok r) last)) last.served, tells);
      })

  pub comes_unanswered : (none : NoMemory) → ServesNetPost run.posting d ask.count mid run.net' (Err none) → run.out' ≡ run.out → ServesPost run d ask (Err (serving.Common fault.NoMemory))
  comes_unanswered none last out =
      inr (record {
        between = mid;
        making = made;
        post = last.post';
        net_is = last.new_is;
        came = inl (refl, last.refused ∙ sym (same_post (Err none) last), out);
      })
