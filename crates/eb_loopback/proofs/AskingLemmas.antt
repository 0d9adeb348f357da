-- The operations of the records of a cycle.
use Rattle.std.proofs.Common.{◌≡◌, ℕ, ◌+◌, ◌*◌, ◌%◌, ◌^◌, Bool, true, false, List, [], ◌∷◌, ◌++◌, map, All, Some, refl, ap, ◌∙◌, arith, append_assoc, append-nil}
use Rattle.std.proofs.lemmas.List.Elements.{All-head, All-tail}
use Rattle.eb_base.specs.declared.width.Width.{Width}
use Rattle.eb_base.specs.Width.{octets}
use Rattle.eb_codec.specs.declared.item.Header.{Header}
use Rattle.eb_codec.specs.Stream.{StreamItem, Recorded}
use Rattle.wb_signals.specs.Request.{Request, placed}
use Rattle.eb_session.specs.Operations.{record_ops, ends_cycle}
use Rattle.wb_signals.specs.History.{Group, group}
use Rattle.eb_session.specs.Cycles.{Cycles, cycles_from, cycles_more}
use Rattle.eb_host.specs.declared.op.HostOp.{HostOp}
use Rattle.eb_host.specs.Asks.{FitsOp, lanes, asked, closing}
use Rattle.eb_loopback.specs.Loopback.{request_of, AsksMeet, RootAsks}

module _ (h : Header) (bus : Width) where
  -- one operation of the bus for each operation of the host
  one_op : (op : HostOp) → FitsOp h op → record_ops bus h (asked h op) ≡ request_of h bus op ∷ []
  one_op op fits = by op.write where
    narrow : (op.adr + 0 * octets h.port) % 256 ^ octets h.address ≡ op.adr
    narrow = let f = fits.address in grind arith

    by : (b : Bool) → record_ops bus h (asked h (record { write = b; adr = op.adr; dat = op.dat })) ≡ request_of h bus (record { write = b; adr = op.adr; dat = op.dat }) ∷ []
    by true = ap (λ (a : ℕ). placed h.port bus true a op.dat (lanes h) ∷ []) narrow
    by false = refl

  goes_on : (op : HostOp) → ends_cycle (asked h op) ≡ false
  goes_on op = by op.write where
    by : (b : Bool) → ends_cycle (asked h (record { write = b; adr = op.adr; dat = op.dat })) ≡ false
    by true = refl
    by false = refl

  open_then : (whole : List Group) (ops : List HostOp) (before : List Request) → All (FitsOp h) ops
      → cycles_from bus (Some h) (record { whole = whole; opened = before }) (map Recorded (map (asked h) ops ++ closing h 0 ∷ []))
      ≡ record { whole = whole ++ group false (before ++ map (request_of h bus) ops); opened = [] }
  open_then whole [] before fits = refl
  open_then whole (op ∷ ops) before fits =
      let req : Request = request_of h bus op in
      let items : List StreamItem = map Recorded (map (asked h) ops ++ closing h 0 ∷ []) in
      (λ i. cycles_from bus (Some h) (cycles_more (record { whole = whole; opened = before }) (one_op op (All-head (FitsOp h) op ops fits) i) (goes_on op i)) items)
      ∙ open_then whole ops (before ++ req ∷ []) (All-tail (FitsOp h) op ops fits)
      ∙ ap (λ (rs : List Request). let c : Cycles = record { whole = whole ++ group false rs; opened = [] } in c) (append_assoc before (req ∷ []) (map (request_of h bus) ops))

pub asks_meet : AsksMeet
asks_meet h bus before ops fits = open_then h bus before ops [] fits

pub root_asks : RootAsks
root_asks h bus before = ap (λ (gs : List Group). let c : Cycles = record { whole = gs; opened = [] } in c) (append-nil before)
