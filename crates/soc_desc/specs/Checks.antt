-- What the check of a JSON value at a path finds: what the value stands for, or the fault.
use Rattle.std.specs.Prelude.{◌≡◌, ℕ, suc, ◌+◌, ◌*◌, ◌-◌, ◌%◌, ◌==◌, ◌&&◌, ◌||◌, List, [], ◌∷◌, ◌++◌, length, Option, Some, None, option_and_then, Result, Ok, Err, Bool, not, nat_le, nat_lt, if◌then◌else◌, slice_index, drop}
use Rattle.std.specs.Fmt.{decimal}
use Rattle.std.specs.List.{list_any}
use Rattle.std.specs.Str.{bytes_eq}
use Rattle.serde_json.specs.Data.{Data, Items, no_items, item, Members, no_members, member}
use Rattle.serde_json.specs.Find.{get_member, as_number, as_u64, as_str, as_array, as_object}
use Rattle.soc_desc.specs.declared.checks.Range.{Range}
use Rattle.soc_desc.specs.declared.fault.DescFault.{DescFault}
use Rattle.soc_desc.specs.declared.fault.DescFault.TheVariants as fault

-- where a value stands in a description, as a text
abbrev pub Path : Type 0
Path = List ℕ

abbrev pub Found : Type 0 → Type 0
Found A = Result A DescFault

-- one check after another: the first fault stands
infixl 10 ◌>>=◌
abbrev pub ◌>>=◌ : {A B : Type 0} → Found A → (A → Found B) → Found B
(Ok x) >>= f = f x
(Err e) >>= f = Err e

infixl 10 ◌>>◌
abbrev pub ◌>>◌ : {A B : Type 0} → Found A → Found B → Found B
(Ok x) >> r = r
(Err e) >> r = Err e

-- A returned fault is the one found, unless memory ran out.
abbrev pub Fails : {Y : Type 0} → DescFault → Found Y → Type 0
Fails fault.NoMemory found = Unit {0}
Fails fault.NotJson found = found ≡ Err fault.NotJson
Fails (fault.Missing p) found = found ≡ Err (fault.Missing p)
Fails (fault.Unknown p) found = found ≡ Err (fault.Unknown p)
Fails (fault.Kind p) found = found ≡ Err (fault.Kind p)
Fails (fault.Range p) found = found ≡ Err (fault.Range p)
Fails (fault.Overlap p q) found = found ≡ Err (fault.Overlap p q)
Fails (fault.Outside p) found = found ≡ Err (fault.Outside p)
Fails (fault.TooMany p) found = found ≡ Err (fault.TooMany p)
Fails (fault.TooDeep p) found = found ≡ Err (fault.TooDeep p)
Fails (fault.Name p) found = found ≡ Err (fault.Name p)

-- What a function returned is what the check finds, unless memory ran out.
abbrev pub Gives : {X Y : Type 0} → (X → Y) → Result X DescFault → Found Y → Type 0
Gives view (Ok x) found = found ≡ Ok (view x)
Gives view (Err e) found = Fails e found

-- the path of a key's value, and of a list's item: a slash and the key or the number
abbrev pub at_key : Path → List ℕ → Path
at_key path key = path ++ 47 ∷ key

abbrev pub at_nth : Path → ℕ → Path
at_nth path i = path ++ 47 ∷ decimal i

-- ---- objects

-- the least key that is none of these, an object having its keys in order
abbrev pub unknown : List (List ℕ) → Members → Option (List ℕ)
unknown keys no_members = None
unknown keys (member key d ms) = if list_any (bytes_eq key) keys then unknown keys ms else Some key

abbrev pub refuse_unknown : Path → Option (List ℕ) → Members → Found Members
refuse_unknown path None ms = Ok ms
refuse_unknown path (Some key) ms = Err (fault.Unknown (at_key path key))

-- the members, if they have no keys but these
abbrev pub known : List (List ℕ) → Path → Members → Found Members
known keys path ms = refuse_unknown path (unknown keys ms) ms

-- what a value is where it has the right JSON type
abbrev pub kind_or : {A : Type 0} → Path → Option A → Found A
kind_or path (Some x) = Ok x
kind_or path None = Err (fault.Kind path)

-- an object
abbrev pub object : Path → Data → Found Members
object path d = kind_or path (as_object d)

-- an object that has no keys but these
abbrev pub object_of : List (List ℕ) → Path → Data → Found Members
object_of keys path d = object path d >>= known keys path

-- the value of a key that must be there, as it is checked
abbrev pub required_at : {A : Type 0} → (Path → Data → Found A) → Path → List ℕ → Option Data → Found A
required_at check path key None = Err (fault.Missing (at_key path key))
required_at check path key (Some d) = check (at_key path key) d

abbrev pub required : {A : Type 0} → (Path → Data → Found A) → Path → List ℕ → Members → Found A
required check path key ms = required_at check path key (get_member key ms)

-- the value of a key that may be missing, with its default
abbrev pub optional_at : {A : Type 0} → (Path → Data → Found A) → A → Path → List ℕ → Option Data → Found A
optional_at check x path key None = Ok x
optional_at check x path key (Some d) = check (at_key path key) d

abbrev pub optional : {A : Type 0} → (Path → Data → Found A) → A → Path → List ℕ → Members → Found A
optional check x path key ms = optional_at check x path key (get_member key ms)

-- ---- numbers

-- a hexadecimal digit, of either case
abbrev pub digit : ℕ → Option ℕ
digit c =
    if nat_le 48 c && nat_le c 57 then Some (c - 48)
    else (if nat_le 65 c && nat_le c 70 then Some (c - 55)
    else (if nat_le 97 c && nat_le c 102 then Some (c - 87) else None))

-- the number of these digits after those read so far
abbrev pub digits_after : ℕ → List ℕ → Option ℕ
digits_after n [] = Some n
digits_after n (c ∷ cs) = option_and_then (λ d. digits_after (16 * n + d) cs) (digit c)

-- a text of 0x and 1 to 16 digits
abbrev pub hex_of : List ℕ → Option ℕ
hex_of t =
    if nat_lt (length t) 3 || nat_lt 18 (length t) || not (slice_index t 0 == 48) || not (slice_index t 1 == 120) then None
    else digits_after 0 (drop 2 t)

-- a whole number: one that JSON holds as an unsigned one of 64 bits, or the text of one
abbrev pub number_or : Option ℕ → Option (List ℕ) → Option ℕ
number_or (Some n) text = Some n
number_or None text = option_and_then hex_of text

abbrev pub number_of : Data → Option ℕ
number_of d = number_or (option_and_then as_u64 (as_number d)) (as_str d)

-- the numbers from one to another
abbrev pub from_to : ℕ → ℕ → Range
from_to least most = record { least = least; most = most; step = 1; rest = 0 }

abbrev pub is_in : Range → ℕ → Bool
is_in range n = nat_le range.least n && nat_le n range.most && n % range.step == range.rest

abbrev pub in_range : Range → Path → ℕ → Found ℕ
in_range range path n = if is_in range n then Ok n else Err (fault.Range path)

-- a number of a range
abbrev pub number_within : Range → Path → Data → Found ℕ
number_within range path d = kind_or path (number_of d) >>= in_range range path

-- ---- texts

abbrev pub text : Path → Data → Found (List ℕ)
text path d = kind_or path (as_str d)

-- a word and what it stands for
pub record Word (A : Type 0) : Type 0 where
  pub word : List ℕ
  pub stands : A

abbrev pub word_in : {A : Type 0} → List (Word A) → Path → List ℕ → Found A
word_in [] path t = Err (fault.Kind path)
word_in (w ∷ ws) path t = if bytes_eq t w.word then Ok w.stands else word_in ws path t

-- one of these words
abbrev pub word : {A : Type 0} → List (Word A) → Path → Data → Found A
word words path d = text path d >>= word_in words path

-- ---- lists

abbrev pub items_len : Items → ℕ
items_len no_items = 0
items_len (item d ds) = suc (items_len ds)

-- the items from number i on, each as it is checked
abbrev pub each_from : {A : Type 0} → (Path → Data → Found A) → Path → ℕ → Items → Found (List A)
each_from check path i no_items = Ok []
each_from check path i (item d ds) = check (at_nth path i) d >>= λ x. each_from check path (i + 1) ds >>= λ xs. Ok (x ∷ xs)

-- as many items as there may be
abbrev pub sized : ℕ → ℕ → Path → Items → Found Items
sized least most path ds =
    if nat_lt most (items_len ds) then Err (fault.TooMany path)
    else (if nat_lt (items_len ds) least then Err (fault.Range path) else Ok ds)

-- a list of least to most items
abbrev pub list : {A : Type 0} → ℕ → ℕ → (Path → Data → Found A) → Path → Data → Found (List A)
list least most check path d = kind_or path (as_array d) >>= sized least most path >>= each_from check path 0
