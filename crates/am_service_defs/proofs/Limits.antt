-- What is read is within its limits.
use Rattle.std.proofs.Common.{◌≡◌, ℕ, ◌≤◌, List, [], ◌∷◌, ◌++◌, Bool, true, false, cond, ◌&&◌, ◌==◌, nat_le, length, take, drop}
use Rattle.std.proofs.Common.{Option, Some, None, refl, sym, ap, ◌∙◌, subst, arith}
use Rattle.std.specs.Option.{option_map}
use Rattle.std.proofs.lemmas.Bool.Decides.{nat_tests}
use Rattle.std.proofs.lemmas.List.{length-take-le, take-append-drop}
use Rattle.am_service_defs.specs.Values.{IsKey, IsValue}
use Rattle.am_service_defs.specs.Lengths.{◌>>=◌, Cut, cut_at, field_in, number_in}
use Rattle.am_service_defs.specs.Commands.{Command, Put, Delete, Claim, IsCommand, is_empty, sole, value_in_body, of_kind, command_of}
use Rattle.am_service_defs.specs.Contents.{Contents, most_keys}
use Rattle.am_service_defs.specs.Snapshots.{ReadKey, SnapshotHead, limited_in, may_follow, setting_behind, setting_in, settings_in, head_behind, head_in, snapshot_in}

-- what was bound gave something
pub bound_option_is_some : {A B : Type 0} (o : Option A) (f : A → Option B) (b : B) → (o >>= f) ≡ Some b → (a : A) × (o ≡ Some a) × (f a ≡ Some b)
bound_option_is_some None f b h = cc
bound_option_is_some (Some a) f b h = (a, refl, h)

pub mapped_option_is_some : {A B : Type 0} (o : Option A) (f : A → B) (b : B) → option_map f o ≡ Some b → (a : A) × (o ≡ Some a) × (f a ≡ b)
mapped_option_is_some None f b h = cc
mapped_option_is_some (Some a) f b h = (a, refl, cc)

-- a test passed
pub passed_test_of_option : {A : Type 0} (b : Bool) (o : Option A) (a : A) → cond b o None ≡ Some a → (b ≡ true) × (o ≡ Some a)
passed_test_of_option true o a h = (refl, h)
passed_test_of_option false o a h = cc

-- a cut is all that was cut
record IsCut (count : ℕ) (bytes : List ℕ) (cut : Cut) : Type 0 where
  pub long : count ≤ length bytes
  pub field : cut.field ≡ take count bytes
  pub rest : cut.rest ≡ drop count bytes
  pub length : length cut.field ≡ count

cut_is : (count : ℕ) (bytes : List ℕ) (cut : Cut) → cut_at count bytes ≡ Some cut → IsCut count bytes cut
unfolding cut_at
cut_is count bytes cut h =
    let p = passed_test_of_option (nat_le count (length bytes)) _ cut h in
    let long : count ≤ length bytes = grind (arith, nat_tests, p.0) in
    let same : record { field = take count bytes; rest = drop count bytes } ≡ cut = cc (p.1) in
    subst (λ (c : Cut). IsCut count bytes c) same (record { long = long; field = refl; rest = refl; length = length-take-le count bytes long })

-- a field is a byte that counts it, and its bytes
pub record IsFieldOfBytes (least most : ℕ) (bytes : List ℕ) (cut : Cut) : Type 0 where
  pub least_is : least ≤ length cut.field
  pub most_is : length cut.field ≤ most
  pub same : bytes ≡ length cut.field ∷ cut.field ++ cut.rest

pub field_read_is_of_bytes : (least most : ℕ) (bytes : List ℕ) (cut : Cut) → field_in least most bytes ≡ Some cut → IsFieldOfBytes least most bytes cut
unfolding field_in
field_read_is_of_bytes least most [] cut h = cc
field_read_is_of_bytes least most (count ∷ bytes) cut h =
    let p = passed_test_of_option (nat_le least count && nat_le count most) _ cut h in
    let c = cut_is count bytes cut p.1 in
    let above : least ≤ count = grind (arith, nat_tests, p.0) in
    let below : count ≤ most = grind (arith, nat_tests, p.0) in
    record {
      least_is = omega (arith, c.length);
      most_is = omega (arith, c.length);
      same = ap (λ n. n ∷ bytes) (sym c.length) ∙ ap (λ xs. length cut.field ∷ xs) (sym (ap (λ xs. xs ++ cut.rest) c.field
          ∙ ap (λ xs. take count bytes ++ xs) c.rest ∙ take-append-drop count bytes));
    }

pub field_read_is_key : (bytes : List ℕ) (cut : Cut) → field_in 1 32 bytes ≡ Some cut → IsKey cut.field
field_read_is_key bytes cut h = let f = field_read_is_of_bytes 1 32 bytes cut h in record { some = f.least_is; few = f.most_is }

pub field_read_is_value : (bytes : List ℕ) (cut : Cut) → field_in 0 64 bytes ≡ Some cut → IsValue cut.field
field_read_is_value bytes cut h = (field_read_is_of_bytes 0 64 bytes cut h).most_is

-- ---- commands

value_within : (bytes value : List ℕ) → value_in_body bytes ≡ Some value → IsValue value
unfolding value_in_body
value_within bytes value h =
    let b = bound_option_is_some (field_in 0 64 bytes) sole value h in
    let p = passed_test_of_option (is_empty b.0.rest) (Some b.0.field) value b.2 in
    let same : b.0.field ≡ value = cc (p.1) in
    subst (λ (v : List ℕ). IsValue v) same (field_read_is_value bytes b.0 b.1)

kind_within : (kind : ℕ) (key : Cut) (command : Command) → IsKey key.field → of_kind kind key ≡ Some command → IsCommand command
unfolding of_kind
kind_within kind key command is_key h = by (kind == 1) (kind == 2) (kind == 3) h
  where
    by : (one two three : Bool) → cond one (option_map (Put key.field) (value_in_body key.rest))
        (cond two (option_map Delete (sole key)) (cond three (option_map (Claim key.field) (value_in_body key.rest)) None)) ≡ Some command → IsCommand command
    by true two three h =
        let m = mapped_option_is_some (value_in_body key.rest) (Put key.field) command h in
        subst (λ (c : Command). IsCommand c) m.2 (is_key, value_within key.rest m.0 m.1)
    by false true three h =
        let m = mapped_option_is_some (sole key) Delete command h in
        let p = passed_test_of_option (is_empty key.rest) (Some key.field) m.0 m.1 in
        let same : key.field ≡ m.0 = cc (p.1) in
        subst (λ (c : Command). IsCommand c) m.2 (subst (λ (k : List ℕ). IsKey k) same is_key)
    by false false true h =
        let m = mapped_option_is_some (value_in_body key.rest) (Claim key.field) command h in
        subst (λ (c : Command). IsCommand c) m.2 (is_key, value_within key.rest m.0 m.1)
    by false false false h = cc

pub command_read_is_command : (body : List ℕ) (command : Command) → command_of body ≡ Some command → IsCommand command
unfolding command_of
command_read_is_command [] command h = cc
command_read_is_command (kind ∷ bytes) command h =
    let b = bound_option_is_some (field_in 1 32 bytes) (of_kind kind) command h in
    kind_within kind b.0 command (field_read_is_key bytes b.0 b.1) b.2

-- ---- what stands in snapshots

pub record ReadIsWithin (last : Option (List ℕ)) (read : ReadKey) : Type 0 where
  pub follows : may_follow last read.key ≡ true
  pub key : IsKey read.key
  pub value : IsValue read.setting.value

behind_keeps : (key : Cut) (read : ReadKey) → setting_behind key ≡ Some read → (read.key ≡ key.field) × IsValue read.setting.value
unfolding setting_behind
behind_keeps key read h =
    let n = bound_option_is_some (limited_in key.rest) _ read h in
    let v = bound_option_is_some (field_in 0 64 n.0.rest) _ read n.2 in
    let is : IsValue v.0.field = field_read_is_value n.0.rest v.0 v.1 in
    let made : record { key = key.field; setting = record { number = n.0.number; value = v.0.field }; rest = v.0.rest } ≡ read = cc (v.2) in
    subst (λ (r : ReadKey). (r.key ≡ key.field) × IsValue r.setting.value) made (refl, is)

pub setting_read_is_within : (last : Option (List ℕ)) (bytes : List ℕ) (read : ReadKey) → setting_in last bytes ≡ Some read → ReadIsWithin last read
unfolding setting_in
setting_read_is_within last bytes read h =
    let k = bound_option_is_some (field_in 1 32 bytes) _ read h in
    let p = passed_test_of_option (may_follow last k.0.field) (setting_behind k.0) read k.2 in
    let r = behind_keeps k.0 read p.1 in
    record {
      follows = subst (λ (x : List ℕ). may_follow last x ≡ true) (sym r.0) p.0;
      key = subst (λ (x : List ℕ). IsKey x) (sym r.0) (field_read_is_key bytes k.0 k.1);
      value = r.1;
    }

-- ---- what a snapshot is read as

pub head_read_count_le_most : (bytes : List ℕ) (head : SnapshotHead) → head_in bytes ≡ Some head → head.count ≤ most_keys
unfolding head_in head_behind
head_read_count_le_most [] head h = cc
head_read_count_le_most (kind ∷ bytes) head h =
    let p = passed_test_of_option (kind == 4) _ head h in
    let j = bound_option_is_some (limited_in bytes) _ head p.1 in
    let c = bound_option_is_some (number_in 2 j.0.rest) _ head j.2 in
    let q = passed_test_of_option (nat_le c.0.number most_keys) _ head c.2 in
    let few : c.0.number ≤ 256 = grind (arith, nat_tests, q.0) in
    let made : record { join = j.0.number; count = c.0.number; rest = c.0.rest } ≡ head = cc (q.1) in
    subst (λ (x : SnapshotHead). x.count ≤ 256) made few

pub snapshot_in_without_head : (bytes : List ℕ) → head_in bytes ≡ None → None ≡ snapshot_in bytes
unfolding snapshot_in
snapshot_in_without_head bytes h =
    sym (ap (λ (o : Option SnapshotHead). o >>= λ head. option_map (λ (contents : Contents). (head.join, contents)) (settings_in head.count None head.rest)) h)

pub snapshot_in_by_head : (bytes : List ℕ) (head : SnapshotHead) (contents : Option Contents) → head_in bytes ≡ Some head → contents ≡ settings_in head.count None head.rest
    → option_map (λ (c : Contents). (head.join, c)) contents ≡ snapshot_in bytes
unfolding snapshot_in
snapshot_in_by_head bytes head contents h e =
    ap (λ (o : Option Contents). option_map (λ (c : Contents). (head.join, c)) o) e
    ∙ sym (ap (λ (o : Option SnapshotHead). o >>= λ x. option_map (λ (c : Contents). (x.join, c)) (settings_in x.count None x.rest)) h)
