-- The octets of a cycle spell its records.
use Rattle.std.proofs.Common.{◌≡◌, ℕ, ◌+◌, ◌-◌, ◌*◌, ◌/◌, ◌^◌, ◌<◌, ◌≤◌, Bool, true, false, true≢false, List, [], ◌∷◌, ◌++◌, length, map, All, Some, refl, sym, ◌∙◌, arith}
use Rattle.std.proofs.lemmas.List.Elements.{All-nil, All-cons, All-head, All-tail}
use Rattle.eb_base.specs.declared.width.Width.{Width}
use Rattle.eb_base.specs.declared.width.Width.TheVariants.{W8, W16, W32, W64}
use Rattle.eb_base.specs.declared.width.Widths.{Widths}
use Rattle.eb_base.specs.Width.{octets}
use Rattle.eb_codec.specs.declared.item.Header.{Header}
use Rattle.eb_codec.specs.Form.{zeroed, record_form, FitsRecord, KeepsRules}
use Rattle.eb_codec.specs.Stream.{Recorded, SpellsAll}
use Rattle.eb_codec.proofs.EncodedLemmas.{encoded_spells}
use Rattle.eb_host.specs.declared.op.HostOp.{HostOp}
use Rattle.eb_host.specs.Asks.{FitsOp, lanes, asked, closing, port_words, asks}
use Rattle.eb_host.proofs.AskLemmas.{words_fit}
use Rattle.eb_loopback.specs.Loopback.{AsksSpell, RootSpells}

positive : (w : Width) → 0 < 256 ^ octets w
positive W8 = omega arith
positive W16 = omega arith
positive W32 = omega arith
positive W64 = omega arith

some_lanes : (w : Width) → (1 ≤ 2 ^ octets w - 1) × (2 ^ octets w - 1 < 2 ^ octets w)
some_lanes W8 = (omega arith, omega arith)
some_lanes W16 = (omega arith, omega arith)
some_lanes W32 = (omega arith, omega arith)
some_lanes W64 = (omega arith, omega arith)

-- 8 octets at 0 or at 8
in_8 : (w : Width) (at : ℕ) → at ≤ 8 → at + 8 / octets w * octets w ≤ 256
in_8 W8 at le = omega arith
in_8 W16 at le = omega arith
in_8 W32 at le = omega arith
in_8 W64 at le = omega arith

module _ (h : Header) (replied : h.no_reply ≡ false) where
  none_unwanted : (n : ℕ) → h.no_reply ≡ true → n ≡ 0
  none_unwanted n e = absurd (true≢false (sym e ∙ replied))

  never : (a b : ℕ) → lanes h ≡ 0 → (a ≡ 0) × (b ≡ 0)
  never a b e = absurd (omega (arith, e, (some_lanes h.port).0))

  one_fits : (op : HostOp) → FitsOp h op → FitsRecord h (asked h op) × KeepsRules h (asked h op).head
  one_fits op f = by op.write where
    adr : op.adr < 256 ^ octets h.address
    adr = f.address

    dat : op.dat < 256 ^ octets h.port
    dat = f.data_

    by : (b : Bool) → let r = asked h (record { write = b; adr = op.adr; dat = op.dat }) in FitsRecord h r × KeepsRules h r.head
    by true = (
      record {
        writes = refl;
        reads = refl;
        write_base = adr;
        return_base = positive h.address;
        values = All-cons (λ (v : ℕ). v < 256 ^ octets h.port) op.dat [] dat (All-nil (λ (v : ℕ). v < 256 ^ octets h.port));
        addresses = All-nil (λ (v : ℕ). v < 256 ^ octets h.address);
        no_write = λ e. absurd (omega (arith, e));
        no_read = λ e. refl;
      },
      record { flags = refl; enable = (some_lanes h.port).1; enabled = never 1 0; replied = λ e. refl },
    )
    by false = (
      record {
        writes = refl;
        reads = refl;
        write_base = positive h.address;
        return_base = positive h.address;
        values = All-nil (λ (v : ℕ). v < 256 ^ octets h.port);
        addresses = All-cons (λ (v : ℕ). v < 256 ^ octets h.address) op.adr [] adr (All-nil (λ (v : ℕ). v < 256 ^ octets h.address));
        no_write = λ e. refl;
        no_read = λ e. refl;
      },
      record { flags = refl; enable = (some_lanes h.port).1; enabled = never 0 1; replied = none_unwanted 1 },
    )

  closing_fits : (at : ℕ) → at ≤ 8 → FitsRecord h (closing h at) × KeepsRules h (closing h at).head
  closing_fits at le =
      let n : ℕ = 8 / octets h.port in (
        record {
          writes = refl;
          reads = refl;
          write_base = positive h.address;
          return_base = positive h.address;
          values = All-nil (λ (v : ℕ). v < 256 ^ octets h.port);
          addresses = words_fit h at n (in_8 h.port at le);
          no_write = λ e. refl;
          no_read = λ e. refl;
        },
        record { flags = refl; enable = (some_lanes h.port).1; enabled = never 0 (length (port_words h at n)); replied = none_unwanted (length (port_words h at n)) },
      )

  all_spell : (sets : Widths) (ops : List HostOp) → All (FitsOp h) ops → SpellsAll sets (Some h) (map Recorded (map (asked h) ops ++ closing h 0 ∷ [])) (asks h (map (asked h) ops ++ closing h 0 ∷ []))
  all_spell sets [] fits = (zeroed (record_form h (closing h 0)), [], refl, encoded_spells sets h (closing h 0) (closing_fits 0 (omega arith)).0 (closing_fits 0 (omega arith)).1, refl)
  all_spell sets (op ∷ ops) fits =
      let one = one_fits op (All-head (FitsOp h) op ops fits) in
      (zeroed (record_form h (asked h op)), asks h (map (asked h) ops ++ closing h 0 ∷ []), refl, encoded_spells sets h (asked h op) one.0 one.1, all_spell sets ops (All-tail (FitsOp h) op ops fits))

  pub root_spelled : (sets : Widths) → SpellsAll sets (Some h) (Recorded (closing h 8) ∷ []) (asks h (closing h 8 ∷ []))
  root_spelled sets =
      let fits = closing_fits 8 (omega arith) in
      (zeroed (record_form h (closing h 8)), [], refl, encoded_spells sets h (closing h 8) fits.0 fits.1, refl)

pub root_spells : RootSpells
root_spells sets h replied = root_spelled h replied sets

pub asks_spell : AsksSpell
asks_spell sets h ops replied fits = all_spell h replied sets ops fits
