-- A crossbar of one port that holds its one slave.
use Rattle.std.proofs.Common.{◌≡◌, ◌≢◌, ℕ, zero, suc, ◌<◌, List, [], ◌∷◌, length, get_or, slice_get, refl, ap, sym, ◌∙◌, subst, arith, Option, Some, IfSome}
use Rattle.std.proofs.lemmas.Option.{slice_get_within, get_or_from_slice_get}
use Rattle.wb_signals.specs.Request.{Request, IsRequest}
use Rattle.wb_signals.specs.Cycles.{FitsBus}
use Rattle.wb_signals.specs.Content.{Content}
use Rattle.wb_signals.specs.Wiring.{Wiring}
use Rattle.wb_signals.specs.Slave.{Owed}
use Rattle.wb_signals.specs.Rows.{asked}
use Rattle.wb_signals.specs.declared.port_row.PortRow.{PortRow}
use Rattle.wb_crossbar.specs.Crossbar.{CrossbarState, CanTick, owed_after_all, wiring_of, after_tick}
use Rattle.wb_crossbar.specs.Alone.{MayTickAlone}
use Rattle.wb_crossbar.specs.Inside.{crossbar_of, IsCrossbar}
use Rattle.wb_crossbar.specs.declared.crossbar.Crossbar.{Crossbar}
use Rattle.wb_tree.specs.declared.node.Node.{Node}
use Rattle.wb_tree.specs.Tree.{node_slave, IsSound}
use Rattle.wb_tests.specs.Shared.{IsShared}

-- Port 0, the only one, holds slave 0, the only one.
only : (holders : List (Option ℕ)) (m k : ℕ) → holders ≡ Some 0 ∷ [] → m < 1 → k < 1 → slice_get holders k ≡ Some (Some m)
only holders zero zero e m k = ap (λ (hs : List (Option ℕ)). slice_get hs 0) e
only holders (suc m) k e h l = absurd (omega arith)
only holders m (suc k) e h l = absurd (omega arith)

-- the one row
same_row : (rows : List PortRow) (row r : PortRow) (m : ℕ) → rows ≡ row ∷ [] → slice_get rows m ≡ Some r → (m < 1) × (row ≡ r)
same_row rows row r m e at =
    let here : slice_get (row ∷ []) m ≡ Some r = ap (λ (rs : List PortRow). slice_get rs m) (sym e) ∙ at in
    let low : m < 1 = slice_get_within (row ∷ []) m r here in
    let z : m ≡ 0 = omega (arith, low) in
    let is : get_or (row ∷ []) m r ≡ r = get_or_from_slice_get (row ∷ []) m r r here in
    (low, sym (ap (λ (k : ℕ). get_or (row ∷ []) k r) z) ∙ is)

-- its one port requests an operation of the bus
pub can_tick : (x : CrossbarState) (row : PortRow) (rows : List PortRow) (holders : List (Option ℕ)) (op : Request) → rows ≡ row ∷ [] → holders ≡ Some 0 ∷ []
    → length x.owed ≡ 1 → length x.children ≡ 1 → asked row ≡ Some op → IsRequest op → FitsBus x.width op → CanTick x rows holders
can_tick x row rows holders op e h ports slaves asks operation fits = record {
  ports = ap (λ (rs : List PortRow). length rs) e ∙ sym ports;
  slaves = ap (λ (hs : List (Option ℕ)). length hs) h ∙ sym slaves;
  asks = λ m r at q is.
      let here = same_row rows row r m e at in
      let same : Some op ≡ Some q = sym asks ∙ ap asked here.1 ∙ is in
      let good : IsRequest q × FitsBus x.width q = subst (λ (o : Option Request). IfSome o (λ q. IsRequest q × FitsBus x.width q)) same (operation, fits) in
      record { operation = good.0; fits = good.1; held = λ below. only holders m _ h here.0 (omega (arith, below, slaves)) };
  owes = λ m owed at i d lt below.
      let low : m < length x.owed = slice_get_within x.owed m owed at in
      only holders m _ h (omega (arith, low, ports)) (omega (arith, below, slaves));
}

-- no other port asks or is owed anything
nothing_else : (owed : List (List Owed)) (n : ℕ) (own : List Owed) → length owed ≡ 1 → n ≢ 0 → slice_get owed n ≡ Some own → own ≡ []
nothing_else owed n own e other at = let l = slice_get_within owed n own at in absurd (other (omega (arith, l, e)))

pub can_alone : (x : CrossbarState) (row : PortRow) (op : Request) → length x.owed ≡ 1 → length x.children ≡ 1 → asked row ≡ Some op → IsRequest op → FitsBus x.width op
    → MayTickAlone x (row ∷ []) 0 row
can_alone x row op ports slaves asks operation fits = record {
  can = (Some 0 ∷ [], can_tick x row (row ∷ []) (Some 0 ∷ []) op refl refl ports slaves asks operation fits);
  own = refl;
  asks = λ n r other at. absurd (other (let l = slice_get_within (row ∷ []) n r at in omega (arith, l)));
  owed = λ n owed other at. nothing_else x.owed n owed ports other at;
}

owed_count : (wiring : Wiring) (contents : List Content) (owed : List (List Owed)) (rows : List PortRow) → length rows ≡ length owed
    → length (owed_after_all wiring contents owed rows) ≡ length owed
owed_count wiring contents [] rows e = refl
owed_count wiring contents (o ∷ owed) [] e = absurd (omega (arith, e))
owed_count wiring contents (o ∷ owed) (r ∷ rows) e =
    let less : length rows ≡ length owed = omega (arith, e) in
    let rest = owed_count wiring contents owed rows less in
    omega (arith, rest)

-- a clock leaves one slave and one port
pub still_shared : (x y : Crossbar Node) (rows : List PortRow) → IsShared x → length rows ≡ 1 → crossbar_of node_slave y ≡ after_tick (crossbar_of node_slave x) rows
    → IsCrossbar node_slave IsSound y → IsShared y
still_shared x y rows s one e sound =
    let state = crossbar_of node_slave x in
    record {
      sound = sound;
      width = ap (λ (c : CrossbarState). c.width) e ∙ s.width;
      slaves = ap (λ (c : CrossbarState). length c.children) e ∙ s.slaves;
      ports = ap (λ (c : CrossbarState). length c.owed) e ∙ owed_count (wiring_of state) state.contents state.owed rows (one ∙ sym s.ports) ∙ s.ports;
    }
