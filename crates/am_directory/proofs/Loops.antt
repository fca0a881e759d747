-- What holds in the loops that write a snapshot, read one, and apply what was held.
use Rattle.std.proofs.Common.{◌≡◌, ℕ, suc, ◌+◌, ◌*◌, ◌-◌, ◌≤◌, ◌<◌, List, [], ◌∷◌, ◌++◌, Bool, true, false, cond, ◌==◌, length, take, Option, Some, None, refl}
use Rattle.std.proofs.Common.{sym, ap, ◌∙◌, subst, arith, append_assoc, append-nil, length-append, get_or}
use Rattle.std.proofs.lemmas.List.{take_more}
use Rattle.std.specs.Option.{option_map}
use Rattle.std.specs.List.{All, AllByRecursion, flat_map}
use Rattle.std.specs.Map.{keys_of, values_of}
use Rattle.std.specs.declared.cmp.Ordering.TheVariants.{Less}
use Rattle.std.specs.Cmp.Lexicographic.{nat_list_cmp_total}
use Rattle.byteorder.specs.Endian.{big_bytes}
use Rattle.byteorder.specs.Numbers.{length-bytes_high_first}
use Rattle.std.proofs.lemmas.Bool.Decides.{nat_tests}
use Rattle.am_service_defs.specs.declared.setting.Setting.{Setting}
use Rattle.am_service_defs.specs.Values.{IsKey, IsValue}
use Rattle.am_service_defs.specs.Contents.{most_keys, Contents, key_cmp, IsDirectory, contents_has_room, with_setting, applied}
use Rattle.am_service_defs.specs.Lengths.{◌>>=◌, field_bytes}
use Rattle.am_service_defs.specs.Commands.{is_empty}
use Rattle.am_service_defs.specs.Snapshots.{head_bytes, setting_bytes, snapshot_of, most_snapshot, ReadKey, may_follow, setting_in, settings_in}
use Rattle.am_directory.specs.declared.backlog.HeldCommand.{HeldCommand}
use Rattle.am_directory.specs.Holding.{held_in}
use Rattle.am_service_defs.specs.Replicas.{apply_held}
use Rattle.am_service_defs.proofs.Limits.{setting_read_is_within}
use Rattle.am_service_defs.proofs.Ordered.{insert-last}
use Rattle.am_service_defs.proofs.SnapshotLaws.{ordering_is_less, all_holds_of_first, all_holds_of_rest}

-- ---- a snapshot is written

-- what is written so far goes on to the whole, and what is left is within its limits
pub record SnapshotIsWrittenUpTo (bytes : List ℕ) (rest : Contents) (whole : List ℕ) : Type 0 where
  pub text : bytes ++ flat_map setting_bytes rest ≡ whole
  pub keys : All IsKey (keys_of rest)
  pub values : All (λ setting. IsValue setting.value) (values_of rest)
  pub room : length bytes + 102 * length rest ≤ most_snapshot

pub snapshot_written_before_first : (contents : Contents) (join : ℕ) (bytes : List ℕ) → IsDirectory contents → bytes ≡ head_bytes join (length contents)
    → SnapshotIsWrittenUpTo bytes contents (snapshot_of contents join)
unfolding snapshot_of
snapshot_written_before_first contents join bytes d head = record {
  text = ap (λ b. b ++ flat_map setting_bytes contents) head;
  keys = d.keys;
  values = d.values;
  room = omega (
    arith,
    d.few,
    ap (λ b. length b) head,
    length-append (4 ∷ big_bytes 4 join) (big_bytes 2 (length contents)),
    length-bytes_high_first 4
        join,
    length-bytes_high_first 2 (length contents),
  );
}

setting_length : (key : List ℕ) (setting : Setting) → IsKey key → IsValue setting.value → length (setting_bytes (key, setting)) ≤ 102
setting_length key setting is_key is_value =
    omega (
      arith,
      is_key.few,
      is_value,
      length-append (field_bytes key) (big_bytes 4 setting.number ++ field_bytes setting.value),
      length-append
          (big_bytes 4 setting.number) (field_bytes setting.value),
      length-bytes_high_first 4 setting.number,
    )

pub snapshot_written_with_setting : (bytes : List ℕ) (key : List ℕ) (setting : Setting) (rest : Contents) (whole new : List ℕ) → SnapshotIsWrittenUpTo bytes ((key, setting) ∷ rest) whole
    → new ≡ bytes ++ setting_bytes (key, setting) → SnapshotIsWrittenUpTo new rest whole
snapshot_written_with_setting bytes key setting rest whole new w e = record {
  text = ap (λ b. b ++ flat_map setting_bytes rest) e ∙ append_assoc bytes (setting_bytes (key, setting)) (flat_map setting_bytes rest) ∙ w.text;
  keys = all_holds_of_rest IsKey key (keys_of rest) w.keys;
  values = all_holds_of_rest (λ (s : Setting). IsValue s.value) setting (values_of rest) w.values;
  room = omega (
    arith,
    w.room,
    ap (λ b. length b) e,
    length-append bytes (setting_bytes (key, setting)),
    setting_length key setting (all_holds_of_first IsKey key
        (keys_of rest) w.keys) (all_holds_of_first (λ (s : Setting). IsValue s.value) setting (values_of rest) w.values),
  );
}

pub key_to_write_is_key : (bytes : List ℕ) (key : List ℕ) (setting : Setting) (rest : Contents) (whole : List ℕ) → SnapshotIsWrittenUpTo bytes ((key, setting) ∷ rest) whole
    → IsKey key
key_to_write_is_key bytes key setting rest whole w = all_holds_of_first IsKey key (keys_of rest) w.keys

pub snapshot_is_all_written : (bytes whole : List ℕ) → SnapshotIsWrittenUpTo bytes [] whole → bytes ≡ whole
snapshot_is_all_written bytes whole w = sym (append-nil bytes) ∙ w.text

-- ---- a snapshot is read

-- so many keys are read, and go on to all of them; a key that may follow is after them all
pub record SettingsAreRestoredUpTo (count : ℕ) (bytes : List ℕ) (read : ℕ) (last : Option (List ℕ)) (rest : List ℕ) (contents : Contents) : Type 0 where
  pub whole : option_map (λ others. contents ++ others) (settings_in (count - read) last rest) ≡ settings_in count None bytes
  pub many : length contents ≡ read
  pub below : (key : List ℕ) → may_follow last key ≡ true → AllByRecursion (λ k. key_cmp k key ≡ Less) (keys_of contents)

map_same : {A : Type 0} (o : Option (List A)) → option_map (λ others. [] ++ others) o ≡ o
map_same None = refl
map_same (Some xs) = refl

pub settings_restored_before_first : (count : ℕ) (bytes : List ℕ) → SettingsAreRestoredUpTo count bytes 0 None bytes []
settings_restored_before_first count bytes = record {
  whole = ap (λ n. option_map (λ others. [] ++ others) (settings_in n None bytes)) (omega arith) ∙ map_same (settings_in count None bytes);
  many = refl;
  below = λ key follows. tt;
}

settings_more : (count read : ℕ) (last : Option (List ℕ)) (rest : List ℕ) → read < count
    → settings_in (count - read) last rest
    ≡ (setting_in last rest >>= λ first. option_map (λ others. (first.key, first.setting) ∷ others) (settings_in (count - (read + 1)) (Some first.key)
    first.rest))
unfolding settings_in
settings_more count read last rest below = ap (λ n. settings_in n last rest) (let e : count - read ≡ suc (count - (read + 1)) = omega arith in e)

-- where the next isn't there, nothing is
pub settings_in_without_next : (count : ℕ) (bytes : List ℕ) (read : ℕ) (last : Option (List ℕ)) (rest : List ℕ) (contents : Contents)
    → SettingsAreRestoredUpTo count bytes read last rest contents
    → read < count → setting_in last rest ≡ None → None ≡ settings_in count None bytes
settings_in_without_next count bytes read last rest contents r below none =
    let more = settings_more count read last rest below in
    let nothing : settings_in (count - read) last rest ≡ None = more
    ∙ ap (λ o. o >>= λ first. option_map (λ others. (first.key, first.setting) ∷ others) (settings_in (count - (read + 1)) (Some first.key)
    first.rest)) none in
    ap (λ o. option_map (λ others. contents ++ others) o) (sym nothing) ∙ r.whole

map_map : (contents : Contents) (e : List ℕ × Setting) (o : Option Contents)
    → option_map (λ others. contents ++ others) (option_map (λ others. e ∷ others) o) ≡ option_map (λ others. (contents ++ e ∷ []) ++ others) o
map_map contents e None = refl
map_map contents e (Some others) = ap Some (sym (append_assoc contents (e ∷ []) others))

all_append : {K X : Type 0} (P : K → Type 0) (es : List (K × X)) (e : K × X) → AllByRecursion P (keys_of es) → P e.0
    → AllByRecursion P (keys_of (es ++ e ∷ []))
all_append P [] e all p = (p, tt)
all_append P (x ∷ es) e all p = (all.0, all_append P es e all.1 p)

all_chain : {X : Type 0} (low high : List ℕ) (es : List (List ℕ × X)) → key_cmp low high ≡ Less → AllByRecursion (λ k. key_cmp k low ≡ Less) (keys_of es)
    → AllByRecursion (λ k. key_cmp k high ≡ Less) (keys_of es)
all_chain low high [] less all = tt
all_chain low high (e ∷ es) less all = (nat_list_cmp_total.trans e.0 low high all.0 less, all_chain low high es less all.1)

pub settings_restored_with_next : (count : ℕ) (bytes : List ℕ) (read : ℕ) (last : Option (List ℕ)) (rest : List ℕ) (contents new : Contents) (first : ReadKey)
    → SettingsAreRestoredUpTo count bytes read last rest contents
    → read < count → setting_in last rest ≡ Some first → new ≡ with_setting contents first.key first.setting
    → SettingsAreRestoredUpTo count bytes (read + 1) (Some first.key) first.rest new
settings_restored_with_next count bytes read last rest contents new first r below is e =
    let more = settings_more count read last rest below in
    let w = setting_read_is_within last rest first is in
    let others = settings_in (count - (read + 1)) (Some first.key) first.rest in
    let at : settings_in (count - read) last rest ≡ option_map (λ o. (first.key, first.setting) ∷ o) others
    = more ∙ ap (λ o. o >>= λ f. option_map (λ os. (f.key, f.setting) ∷ os) (settings_in (count - (read + 1)) (Some f.key) f.rest)) is in
    let above = r.below first.key w.follows in
    let end : new ≡ contents ++ (first.key, first.setting) ∷ [] = e ∙ insert-last nat_list_cmp_total first.key first.setting contents above in
    record {
      whole = ap (λ c. option_map (λ os. c ++ os) others) end ∙ sym (map_map contents (first.key, first.setting) others)
          ∙ ap (λ o. option_map (λ os. contents ++ os) o) (sym at) ∙ r.whole;
      many = ap (λ c. length c) end ∙ length-append contents ((first.key, first.setting) ∷ []) ∙ ap (λ n. n + 1) r.many;
      below = λ key follows.
          let less = ordering_is_less (key_cmp first.key key) follows in
          subst (λ (c : Contents). AllByRecursion (λ k. key_cmp k key ≡ Less) (keys_of c)) (sym end)
          (all_append (λ k. key_cmp k key ≡ Less) contents (first.key, first.setting) (all_chain first.key key contents less above) less);
    }

-- all are read
pub settings_in_are_all_restored : (count : ℕ) (bytes : List ℕ) (read : ℕ) (last : Option (List ℕ)) (rest : List ℕ) (contents : Contents)
    → SettingsAreRestoredUpTo count bytes read last rest contents
    → count ≤ read → cond (is_empty rest) (Some contents) None ≡ settings_in count None bytes
unfolding settings_in
settings_in_are_all_restored count bytes read last rest contents r above =
    let none : count - read ≡ 0 = omega arith in
    let end : settings_in (count - read) last rest ≡ cond (is_empty rest) (Some []) None = ap (λ n. settings_in n last rest) none in
    by (is_empty rest) ∙ ap (λ o. option_map (λ os. contents ++ os) o) (sym end) ∙ r.whole
  where
    by : (b : Bool) → cond b (Some contents) None ≡ option_map (λ os. contents ++ os) (cond b (Some []) None)
    by true = ap Some (sym (append-nil contents))
    by false = refl

pub restored_contents_have_room : (count : ℕ) (bytes : List ℕ) (read : ℕ) (last : Option (List ℕ)) (rest : List ℕ) (contents : Contents)
    → SettingsAreRestoredUpTo count bytes read last rest contents
    → read < count → count ≤ most_keys → contents_has_room contents ≡ true
restored_contents_have_room count bytes read last rest contents r below few = let short : length contents < 256 = omega (arith, r.many) in grind (arith, nat_tests)

-- ---- what was held is applied

held_push : (contents : Contents) (held : List HeldCommand) (h : HeldCommand)
    → apply_held contents (held_in (held ++ h ∷ [])) ≡ applied (apply_held contents (held_in held)) h.number h.body
held_push contents [] h = refl
held_push contents (first ∷ held) h = held_push (applied contents first.number first.body) held h

pub held_command_is_applied_next : (contents : Contents) (held : List HeldCommand) (i : ℕ) (h : HeldCommand) (before new : Contents)
    → before ≡ apply_held contents (held_in (take i held))
    → i < length held → h ≡ get_or held i h → new ≡ applied before h.number h.body → new ≡ apply_held contents (held_in (take (i + 1) held))
held_command_is_applied_next contents held i h before new so below is e =
    let more : take (i + 1) held ≡ take i held ++ h ∷ [] = take_more held i h below ∙ ap (λ x. take i held ++ x ∷ []) (sym is) in
    e ∙ ap (λ c. applied c h.number h.body) so ∙ sym (held_push contents (take i held) h) ∙ ap (λ xs. apply_held contents (held_in xs)) (sym more)

pub is_empty_is_length_zero : (xs : List ℕ) → (length xs == 0) ≡ is_empty xs
is_empty_is_length_zero [] = refl
is_empty_is_length_zero (x ∷ xs) = grind (arith, nat_tests)
