-- The law of discovery.
use Rattle.std.proofs.Common.{◌≡◌, ℕ, ◌+◌, List, [], ◌∷◌, ◌++◌, Result, Ok, Err, inl, inr, refl, sym, ap, ◌∙◌, subst, arith, All}
use Rattle.soc_desc.specs.declared.description.Description.{Description}
use Rattle.soc_desc.specs.declared.description.ItemDescription.TheViews.{out-BusDescription}
use Rattle.soc_desc.specs.Accepted.{IsAccepted}
use Rattle.soc_desc.proofs.Sound.{top_of_sound}
use Rattle.sdb_build.specs.Buses.{buses_of}
use Rattle.sdb_walk.specs.declared.found.Found.{Found}
use Rattle.sdb_walk.specs.declared.fault.WalkFault.{WalkFault}
use Rattle.sdb_walk.specs.declared.reader.Exchange.{Exchange}
use Rattle.sdb_walk.specs.Walk.{Ended, exchanges, max_address, goes_on, first_of}
use Rattle.sdb_walk.proofs.Goes.{Goes}
use Rattle.sdb_walk.proofs.OneEnd.{same_rest, some_same, result_of}
use Rattle.soc_machine.specs.Described.{described_wiring, described_contents}
use Rattle.soc_discovery.specs.Tree.{tree_of}
use Rattle.soc_discovery.specs.Law.{begins_on, AreReads, read_all, addresses, Discovered, OnlyDiscovered, ReaderDiscovers, LeftAsBuilt}
use Rattle.soc_discovery.proofs.Roms.{every_shown}
use Rattle.soc_discovery.proofs.TreeWalk.{HasTable, every_walks, every_bytes}
use Rattle.soc_discovery.proofs.TableReads.{Has, table_read, some_words, no_other, unchanged}

module _ (C : Type 0) (d : Description) (accepted : IsAccepted d) where
  tables_read : All (HasTable C (Has C (described_wiring d) (described_contents d))) (buses_of d)
  tables_read =
      let shows = every_shown d.bus accepted.sound 0 refl in
      let bytes = every_bytes d.bus accepted.sound 0 in
      λ k x lt. table_read C (described_wiring d) (described_contents d) (0 + (out-BusDescription d.bus).last) _ (bytes k x lt) (shows k x lt)

  pub whole_walk : Goes C (Has C (described_wiring d) (described_contents d)) (begins_on C d) (Ended (Ok (tree_of d)))
  whole_walk =
      let l = out-BusDescription d.bus in
      let below = (top_of_sound d.bus accepted.sound).below in
      let levels = accepted.levels in
      let records = accepted.records in
      let at : 0 + l.sdb ≡ l.sdb = omega arith in
      subst (λ (x : ℕ). Goes C (Has C (described_wiring d) (described_contents d)) (goes_on (first_of x 0 [] 0 max_address ∷ []) 0 []) (Ended (Ok (tree_of d)))) at
      (every_walks C (Has C (described_wiring d) (described_contents d)) d.bus 0 [] 0 max_address [] 0 [] accepted.sound tables_read
      (omega arith) (omega (arith, below)) (omega arith) (omega (arith, levels)) (omega (arith, records)))

pub discovered : (C : Type 0) → Discovered C
discovered C d accepted = some_words C (described_wiring d) (described_contents d) (begins_on C d) (Ended (Ok (tree_of d))) (whole_walk C d accepted)

pub only_discovered : (C : Type 0) → OnlyDiscovered C
only_discovered C d accepted words reads result ended =
    ap (result_of result) (no_other C (described_wiring d) (described_contents d) (begins_on C d) (Ended (Ok (tree_of d))) (whole_walk C d accepted) (Ok (tree_of d)) refl words reads result ended)

pub reader_discovers : (C : Type 0) → ReaderDiscovers C
reader_discovers C d accepted before after_ more (Ok tree) found parts reads =
    let e : before ++ more ≡ before ++ exchanges (begins_on C d) found.0 = sym parts ∙ some_same [] _ _ found.1 in
    let same = same_rest before more (exchanges (begins_on C d) found.0) e in
    let is : AreReads C d found.0 = subst (λ (xs : List (Exchange C)). xs ≡ read_all (described_wiring d) (described_contents d) (addresses xs)) same reads in
    inl (only_discovered C d accepted found.0 is (Ok tree) found.2)
reader_discovers C d accepted before after_ more (Err f) (inl found) parts reads =
    inr (ap (λ (g : WalkFault C). let r : Result (List Found) (WalkFault C) = Err g in r) found.2)
reader_discovers C d accepted before after_ more (Err f) (inr found) parts reads =
    let e : before ++ more ≡ before ++ exchanges (begins_on C d) found.0 = sym parts ∙ some_same [] _ _ found.1 in
    let same = same_rest before more (exchanges (begins_on C d) found.0) e in
    let is : AreReads C d found.0 = subst (λ (xs : List (Exchange C)). xs ≡ read_all (described_wiring d) (described_contents d) (addresses xs)) same reads in
    inl (only_discovered C d accepted found.0 is (Err f) found.2)

pub left_as_built : (C : Type 0) → LeftAsBuilt C
left_as_built C d accepted words reads =
    unchanged C (described_wiring d) (described_contents d) (begins_on C d) (Ended (Ok (tree_of d))) (whole_walk C d accepted) (Ok (tree_of d)) refl words reads
