use Rattle.std.proofs.Common.{◌≡◌, ◌≤◌, List, ℕ, length, Ok, Err, Some, None, true, false, nat_lt, refl, sym, ◌∙◌, true≢false, arith}
use Rattle.std.proofs.lemmas.Bool.Decides.{nat_tests}
use Rattle.std.specs.Prelude.{IsUtf8}
use Rattle.std.specs.Str.{is_utf8}
use Rattle.std.proofs.lemmas.Str.{IsUtf8-from_is_utf8, is_utf8-from_IsUtf8}
use Rattle.serde_json.specs.Data.{Data}
use Rattle.serde_json.specs.Read.{read as read_text}
use Rattle.serde_json.specs.View.{view}
use Rattle.soc_desc.specs.Described.{value_of, most_octets}
use Rattle.soc_desc.specs.declared.fault.DescFault.TheVariants as fault
use Rattle.soc_desc.proofs.reading.value_of.Goals as goal

-- a text that was read
value_is : (t : List ℕ) (d : Data) → length t ≤ most_octets → IsUtf8 t → read_text t ≡ Some d → value_of t ≡ Ok d
value_is t d short utf8 h =
    let within : nat_lt most_octets (length t) ≡ false = grind (arith, nat_tests) in
    rw (within, is_utf8-from_IsUtf8 t utf8, h) refl

-- a text that was refused
no_value : (t : List ℕ) → length t ≤ most_octets → (IsUtf8 t → read_text t ≡ None) → value_of t ≡ Err fault.NotJson
no_value t short h =
    let within : nat_lt most_octets (length t) ≡ false = grind (arith, nat_tests) in
    elim (is_utf8 t) as (λ v. is_utf8 t ≡ v → value_of t ≡ Err fault.NotJson) [
      | true ↦ λ e. rw (within, e, h (IsUtf8-from_is_utf8 t e)) refl
      | false ↦ λ e. rw (within, e) refl
    ] refl

pub returns-in-Ok : goal.returns-in-Ok
returns-in-Ok c = value_is c.args.text.now (view c.in-Ok.value) (omega arith) c.in-Ok.ensures.ok.0 c.in-Ok.ensures.ok.1

pub returns-else-is_memory : goal.returns-else-is_memory
returns-else-is_memory c =
    no_value c.args.text.now (omega arith) (c.in-Err.ensures.err (λ m. true≢false (sym (c.is_memory.ensures.1 m) ∙ c.if-is_memory.false)))
