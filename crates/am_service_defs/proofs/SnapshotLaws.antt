-- Bytes are read as a snapshot exactly where they are it.
use Rattle.std.proofs.Common.{◌≡◌, ℕ, zero, suc, ◌^◌, ◌≤◌, ◌<◌, List, [], ◌∷◌, ◌++◌, Bool, true, cond, ◌==◌, nat_le, length}
use Rattle.std.proofs.Common.{drop, Option, Some, None, refl, sym, ap, ◌∙◌, subst, arith, length-append, append_assoc}
use Rattle.std.specs.Option.{option_map}
use Rattle.std.specs.List.{All, AllByRecursion, flat_map}
use Rattle.std.specs.List.Sorted.{IsStrictlySortedBy}
use Rattle.std.specs.Map.{keys_of, values_of}
use Rattle.std.specs.declared.cmp.Ordering.{Ordering}
use Rattle.std.specs.declared.cmp.Ordering.TheVariants.{Less, Equal, Greater}
use Rattle.std.specs.Ordering.{is_lt}
use Rattle.std.specs.Cmp.Lexicographic.{nat_list_cmp_total}
use Rattle.std.proofs.lemmas.Bool.Decides.{nat_tests}
use Rattle.std.proofs.lemmas.List.{drop_at}
use Rattle.byteorder.specs.Endian.{big_bytes, big_number}
use Rattle.byteorder.specs.Numbers.{big_number-reads_back, length-bytes_high_first}
use Rattle.am_base.specs.Most.{greatest_number}
use Rattle.am_base.specs.Limits.{NumberIsInRange}
use Rattle.am_packet.specs.Laws.{IsBytes}
use Rattle.am_packet.proofs.Numbers.{dropped_bytes_are_bytes, big_number-lt, bytes_front_is_big_bytes}
use Rattle.am_service_defs.specs.declared.setting.Setting.{Setting}
use Rattle.am_service_defs.specs.Values.{IsKey, IsValue}
use Rattle.am_service_defs.specs.Lengths.{◌>>=◌, Cut, Numbered, field_bytes, field_in, number_in}
use Rattle.am_service_defs.specs.Commands.{is_empty}
use Rattle.am_service_defs.specs.Contents.{Contents, key_cmp, most_keys}
use Rattle.am_service_defs.specs.Snapshots.{ReadKey, SnapshotHead, head_bytes, setting_bytes, snapshot_of, IsContents, IsSnapshot, limited_in, may_follow, setting_behind}
use Rattle.am_service_defs.specs.Snapshots.{setting_in, settings_in, head_behind, head_in, snapshot_in, SnapshotsAreTheirBytes}
use Rattle.am_service_defs.proofs.Limits.{bound_option_is_some, mapped_option_is_some, passed_test_of_option, field_read_is_of_bytes, field_read_is_key}
use Rattle.am_service_defs.proofs.CommandLaws.{empty_is_nil, field_in_of_written_field}

pub all_holds_of_first : {X : Type 0} (P : X → Type 0) (x : X) (xs : List X) → All P (x ∷ xs) → P x
all_holds_of_first P x xs all = all 0 x (omega arith)

pub all_holds_of_rest : {X : Type 0} (P : X → Type 0) (x : X) (xs : List X) → All P (x ∷ xs) → All P xs
all_holds_of_rest P x xs all k d below = all (suc k) d (omega (arith, below))

pub ordering_is_less : (o : Ordering) → is_lt o ≡ true → o ≡ Less
ordering_is_less Less h = refl
ordering_is_less Equal h = cc
ordering_is_less Greater h = cc

-- ---- what is read is spelled so

-- what stands in front of bytes, and that those after are bytes too
record IsNumbered (count : ℕ) (bytes : List ℕ) (n : Numbered) : Type 0 where
  pub same : bytes ≡ big_bytes count n.number ++ n.rest
  pub rest : IsBytes n.rest
  pub below : n.number < 256 ^ count

numbered_is : (count : ℕ) (bytes : List ℕ) (n : Numbered) → IsBytes bytes → number_in count bytes ≡ Some n → IsNumbered count bytes n
unfolding number_in
numbered_is count bytes n fits h =
    let p = passed_test_of_option (nat_le count (length bytes)) _ n h in
    let long : count ≤ length bytes = grind (arith, nat_tests, p.0) in
    let same : record { number = big_number count bytes; rest = drop count bytes } ≡ n = cc (p.1) in
    subst (λ (m : Numbered). IsNumbered count bytes m) same (record {
      same = bytes_front_is_big_bytes count bytes long fits;
      rest = dropped_bytes_are_bytes count bytes fits;
      below =
          big_number-lt count bytes fits;
    })

record IsLimited (bytes : List ℕ) (n : Numbered) : Type 0 where
  pub numbered : IsNumbered 4 bytes n
  pub number : NumberIsInRange n.number

limited_is : (bytes : List ℕ) (n : Numbered) → IsBytes bytes → limited_in bytes ≡ Some n → IsLimited bytes n
unfolding limited_in
limited_is bytes n fits h =
    let b = bound_option_is_some (number_in 4 bytes) _ n h in
    let p = passed_test_of_option (nat_le b.0.number greatest_number) (Some b.0) n b.2 in
    let same : b.0 ≡ n = cc (p.1) in
    let number : NumberIsInRange b.0.number = grind (arith, nat_tests, p.0) in
    subst (λ (m : Numbered). IsLimited bytes m) same (record { numbered = numbered_is 4 bytes b.0 fits b.1; number = number })

-- the bytes after a front of bytes
behind : (first rest bytes : List ℕ) → bytes ≡ first ++ rest → IsBytes bytes → IsBytes rest
behind first rest bytes e fits =
    subst (λ (xs : List ℕ). IsBytes xs) (drop_at first rest (length first) refl)
    (dropped_bytes_are_bytes (length first) (first ++ rest) (subst (λ (xs : List ℕ). IsBytes xs) e fits))

record IsRead (last : Option (List ℕ)) (bytes : List ℕ) (read : ReadKey) : Type 0 where
  pub same : bytes ≡ setting_bytes (read.key, read.setting) ++ read.rest
  pub rest : IsBytes read.rest
  pub follows : may_follow last read.key ≡ true
  pub key : IsKey read.key
  pub number : NumberIsInRange read.setting.number
  pub value : IsValue read.setting.value

behind_is : (last : Option (List ℕ)) (bytes : List ℕ) (key : Cut) (read : ReadKey) → IsBytes bytes → bytes ≡ field_bytes key.field ++ key.rest → IsKey key.field
    → may_follow last key.field ≡ true → setting_behind key ≡ Some read → IsRead last bytes read
unfolding setting_behind
behind_is last bytes key read fits e is_a_key follows h =
    let fits-key = behind (field_bytes key.field) key.rest bytes e fits in
    let n = bound_option_is_some (limited_in key.rest) _ read h in
    let number = limited_is key.rest n.0 fits-key n.1 in
    let v = bound_option_is_some (field_in 0 64 n.0.rest) _ read n.2 in
    let value = field_read_is_of_bytes 0 64 n.0.rest v.0 v.1 in
    let at : n.0.rest ≡ field_bytes v.0.field ++ v.0.rest = value.same in
    let made : record { key = key.field; setting = record { number = n.0.number; value = v.0.field }; rest = v.0.rest } ≡ read = cc (v.2) in
    subst (λ (r : ReadKey). IsRead last bytes r) made (record {
      same = e ∙ ap (λ (x : List ℕ). field_bytes key.field ++ x) (number.numbered.same ∙ ap (λ (x : List ℕ). big_bytes 4 n.0.number ++ x) at
          ∙ sym (append_assoc (big_bytes 4 n.0.number) (field_bytes v.0.field) v.0.rest))
          ∙ sym (append_assoc (field_bytes key.field) (big_bytes 4 n.0.number ++ field_bytes v.0.field) v.0.rest);
      rest = behind (field_bytes v.0.field) v.0.rest n.0.rest at number.numbered.rest;
      follows = follows;
      key = is_a_key;
      number = number.number;
      value = value.most_is;
    })

read_is : (last : Option (List ℕ)) (bytes : List ℕ) (read : ReadKey) → IsBytes bytes → setting_in last bytes ≡ Some read → IsRead last bytes read
unfolding setting_in
read_is last bytes read fits h =
    let k = bound_option_is_some (field_in 1 32 bytes) _ read h in
    let p = passed_test_of_option (may_follow last k.0.field) (setting_behind k.0) read k.2 in
    behind_is last bytes k.0 read fits (field_read_is_of_bytes 1 32 bytes k.0 k.1).same (field_read_is_key bytes k.0 k.1) p.0 p.1

all_cons : {X : Type 0} (P : X → Type 0) (x : X) (xs : List X) → P x → All P xs → All P (x ∷ xs)
all_cons P x xs p all zero d below = p
all_cons P x xs p all (suc k) d below = all k d (omega (arith, below))

none_has : {X : Type 0} (P : X → Type 0) → All P []
none_has P k d below = absurd (omega arith)

-- settings that are read, from after a key on
record AreRead (count : ℕ) (last : Option (List ℕ)) (bytes : List ℕ) (contents : Contents) : Type 0 where
  pub same : bytes ≡ flat_map setting_bytes contents
  pub many : length contents ≡ count
  pub ordered : IsStrictlySortedBy key_cmp (keys_of contents)
  pub follow : AllByRecursion (λ key. may_follow last key ≡ true) (keys_of contents)
  pub keys : All IsKey (keys_of contents)
  pub values : All (λ setting. IsValue setting.value) (values_of contents)
  pub numbers : All (λ setting. NumberIsInRange setting.number) (values_of contents)

no_more : (last : Option (List ℕ)) (bytes : List ℕ) (contents : Contents) → cond (is_empty bytes) (Some []) None ≡ Some contents
    → AreRead 0 last bytes contents
unfolding IsStrictlySortedBy
no_more last bytes contents h =
    let p = passed_test_of_option (is_empty bytes) (Some []) contents h in
    let same : [] ≡ contents = cc (p.1) in
    let blank : AreRead 0 last bytes [] = record {
      same = empty_is_nil bytes p.0;
      many = refl;
      ordered = tt;
      follow = tt;
      keys = none_has IsKey;
      values = none_has (λ (s : Setting). IsValue s.value);
      numbers = none_has (λ (s : Setting). NumberIsInRange s.number);
    } in
    subst (λ (c : Contents). AreRead 0 last bytes c) same blank

less_all : (key : List ℕ) (keys : List (List ℕ)) → AllByRecursion (λ k. may_follow (Some key) k ≡ true) keys → AllByRecursion (λ k. key_cmp key k ≡ Less) keys
less_all key [] all = tt
less_all key (k ∷ keys) all = (ordering_is_less (key_cmp key k) all.0, less_all key keys all.1)

follow_on : (last : Option (List ℕ)) (key : List ℕ) (keys : List (List ℕ)) → may_follow last key ≡ true
    → AllByRecursion (λ k. may_follow (Some key) k ≡ true) keys
    → AllByRecursion (λ k. may_follow last k ≡ true) keys
follow_on last key [] first all = tt
follow_on None key (k ∷ keys) first all = (refl, follow_on None key keys first all.1)
follow_on (Some low) key (k ∷ keys) first all = (
  ap (λ o. is_lt o) (nat_list_cmp_total.trans low key k (ordering_is_less (key_cmp low key) first) (ordering_is_less (key_cmp key k) all.0)),
  follow_on (Some low) key
      keys first all.1,
)

one_more : (count : ℕ) (last : Option (List ℕ)) (bytes : List ℕ) (read : ReadKey) (others : Contents) → IsRead last bytes read
    → AreRead count (Some read.key) read.rest others
    → AreRead (suc count) last bytes ((read.key, read.setting) ∷ others)
unfolding IsStrictlySortedBy
one_more count last bytes read others r a = record {
  same = r.same ∙ ap (λ (x : List ℕ). setting_bytes (read.key, read.setting) ++ x) a.same;
  many = ap suc a.many;
  ordered = (less_all read.key (keys_of others) a.follow, a.ordered);
  follow = (r.follows, follow_on last read.key (keys_of others) r.follows a.follow);
  keys = all_cons IsKey read.key (keys_of others) r.key a.keys;
  values = all_cons (λ (s : Setting). IsValue s.value) read.setting (values_of others) r.value a.values;
  numbers = all_cons (λ (s : Setting). NumberIsInRange s.number) read.setting (values_of others) r.number a.numbers;
}

are_read : (count : ℕ) (last : Option (List ℕ)) (bytes : List ℕ) (contents : Contents) → IsBytes bytes → settings_in count last bytes ≡ Some contents
    → AreRead count last bytes contents
unfolding settings_in
are_read zero last bytes contents fits h = no_more last bytes contents h
are_read (suc count) last bytes contents fits h =
    let b = bound_option_is_some (setting_in last bytes) _ contents h in
    let r = read_is last bytes b.0 fits b.1 in
    let m = mapped_option_is_some (settings_in count (Some b.0.key) b.0.rest) _ contents b.2 in
    subst (λ (c : Contents). AreRead (suc count) last bytes c) m.2 (one_more count last bytes b.0 m.0 r (are_read count (Some b.0.key) b.0.rest m.0
    r.rest m.1))

record IsHead (bytes : List ℕ) (head : SnapshotHead) : Type 0 where
  pub same : bytes ≡ head_bytes head.join head.count ++ head.rest
  pub rest : IsBytes head.rest
  pub join : NumberIsInRange head.join
  pub few : head.count ≤ most_keys

head_behind_is : (bytes : List ℕ) (head : SnapshotHead) → IsBytes bytes → head_behind bytes ≡ Some head → IsHead (4 ∷ bytes) head
unfolding head_behind
head_behind_is bytes head fits h =
    let j = bound_option_is_some (limited_in bytes) _ head h in
    let join = limited_is bytes j.0 fits j.1 in
    let c = bound_option_is_some (number_in 2 j.0.rest) _ head j.2 in
    let count = numbered_is 2 j.0.rest c.0 join.numbered.rest c.1 in
    let p = passed_test_of_option (nat_le c.0.number most_keys) _ head c.2 in
    let few : c.0.number ≤ 256 = grind (arith, nat_tests, p.0) in
    let made : record { join = j.0.number; count = c.0.number; rest = c.0.rest } ≡ head = cc (p.1) in
    subst (λ (x : SnapshotHead). IsHead (4 ∷ bytes) x) made (record {
      same = ap (λ (x : List ℕ). 4 ∷ x) (join.numbered.same ∙ ap (λ (x : List ℕ). big_bytes 4 j.0.number ++ x) count.same)
          ∙ sym (append_assoc (4 ∷ big_bytes 4 j.0.number) (big_bytes 2 c.0.number) c.0.rest);
      rest = count.rest;
      join = join.number;
      few = few;
    })

head_is : (bytes : List ℕ) (head : SnapshotHead) → IsBytes bytes → head_in bytes ≡ Some head → IsHead bytes head
unfolding head_in
head_is [] head fits h = cc
head_is (kind ∷ bytes) head fits h =
    let p = passed_test_of_option (kind == 4) (head_behind bytes) head h in
    let four : kind ≡ 4 = grind (arith, nat_tests, p.0) in
    let rest : IsBytes bytes = λ k. fits (suc k) in
    subst (λ (k : ℕ). IsHead (k ∷ bytes) head) (sym four) (head_behind_is bytes head rest p.1)

snapshot_is : (bytes : List ℕ) (join : ℕ) (contents : Contents) → IsBytes bytes → snapshot_in bytes ≡ Some (join, contents) → IsSnapshot bytes join contents
unfolding snapshot_in snapshot_of
snapshot_is bytes join contents fits h =
    let b = bound_option_is_some (head_in bytes) _ (join, contents) h in
    let head = head_is bytes b.0 fits b.1 in
    let m = mapped_option_is_some (settings_in b.0.count None b.0.rest) _ (join, contents) b.2 in
    let all = are_read b.0.count None b.0.rest m.0 head.rest m.1 in
    let same-join : b.0.join ≡ join = ap (λ (p : ℕ × Contents). p.0) m.2 in
    let same-contents : m.0 ≡ contents = ap (λ (p : ℕ × Contents). p.1) m.2 in
    let few : length m.0 ≤ 256 = omega (arith, all.many, head.few) in
    let is : IsSnapshot bytes b.0.join m.0 = record {
      number = head.join;
      within = record { directory = record { few = few; ordered = all.ordered; keys = all.keys; values = all.values }; numbers = all.numbers };
      same = head.same ∙ ap (λ (x : List ℕ). head_bytes b.0.join b.0.count ++ x) all.same
          ∙ ap (λ (n : ℕ). head_bytes b.0.join n ++ flat_map setting_bytes m.0) (sym all.many);
    } in
    subst (λ (c : Contents). IsSnapshot bytes join c) same-contents (subst (λ (j : ℕ). IsSnapshot bytes j m.0) same-join is)

-- ---- what is spelled so is read

number_reads : (count number : ℕ) (rest : List ℕ) → number < 256 ^ count
    → number_in count (big_bytes count number ++ rest) ≡ Some (record { number = number; rest = rest })
unfolding number_in
number_reads count number rest below =
    let long : count ≤ length (big_bytes count number ++ rest) = omega (
      arith,
      length-append (big_bytes count number) rest,
      length-bytes_high_first count
          number,
    ) in
    let test : nat_le count (length (big_bytes count number ++ rest)) ≡ true = grind (arith, nat_tests) in
    ap (λ (b : Bool). cond b (Some (record {
      number = big_number count (big_bytes count number ++ rest);
      rest = drop count (big_bytes count number ++
          rest);
    })) None) test
    ∙ ap (λ (n : ℕ). Some (record { number = n; rest = drop count (big_bytes count number ++ rest) })) (big_number-reads_back count number rest below)
    ∙ ap (λ (r : List ℕ). Some (record { number = number; rest = r })) (drop_at (big_bytes count number) rest count (length-bytes_high_first count number))

limited_reads : (number : ℕ) (rest : List ℕ) → NumberIsInRange number → limited_in (big_bytes 4 number ++ rest) ≡ Some (record { number = number; rest = rest })
unfolding limited_in
limited_reads number rest is =
    let below : number < 4294967296 = omega (arith, is) in
    let test : nat_le number 2000000000 ≡ true = grind (arith, nat_tests) in
    ap (λ (o : Option Numbered). o >>= λ n. cond (nat_le n.number greatest_number) (Some n) None) (number_reads 4 number rest below)
    ∙ ap (λ (b : Bool). cond b (Some (record { number = number; rest = rest })) None) test

behind_reads : (key : List ℕ) (setting : Setting) (rest : List ℕ) → NumberIsInRange setting.number → IsValue setting.value
    → setting_behind (record { field = key; rest = big_bytes 4 setting.number ++ (field_bytes setting.value ++ rest) }) ≡ Some (record {
      key = key;
      setting = setting;
      rest = rest;
    })
unfolding setting_behind
behind_reads key setting rest is_number is =
    ap (λ (o : Option Numbered). o >>= λ number. (field_in 0 64 number.rest >>= λ value. Some (record {
      key = key;
      setting = record {
        number =
            number.number;
        value = value.field;
      };
      rest = value.rest;
    })))
    (limited_reads setting.number (field_bytes setting.value ++ rest) is_number)
    ∙ ap (λ (o : Option Cut). o >>= λ value. Some (record {
      key = key;
      setting = record { number = setting.number; value = value.field };
      rest =
          value.rest;
    }))
    (field_in_of_written_field 0 64 setting.value rest (omega arith) is)

setting_reads : (last : Option (List ℕ)) (key : List ℕ) (setting : Setting) (rest : List ℕ) → may_follow last key ≡ true → IsKey key
    → NumberIsInRange setting.number → IsValue setting.value
    → setting_in last (setting_bytes (key, setting) ++ rest) ≡ Some (record { key = key; setting = setting; rest = rest })
unfolding setting_in
setting_reads last key setting rest follows is_a_key is_number is =
    let spelled : setting_bytes (key, setting) ++ rest ≡ field_bytes key ++ (big_bytes 4 setting.number ++ (field_bytes setting.value ++ rest))
    = append_assoc (field_bytes key) (big_bytes 4 setting.number ++ field_bytes setting.value) rest
    ∙ ap (λ (x : List ℕ). field_bytes key ++ x) (append_assoc (big_bytes 4 setting.number) (field_bytes setting.value) rest) in
    ap (λ (x : List ℕ). field_in 1 32 x >>= λ k. cond (may_follow last k.field) (setting_behind k) None) spelled
    ∙ ap (λ (o : Option Cut). o >>= λ k. cond (may_follow last k.field) (setting_behind k) None)
    (field_in_of_written_field 1 32 key (big_bytes 4 setting.number ++ (field_bytes setting.value ++ rest)) is_a_key.some is_a_key.few)
    ∙ ap (λ (b : Bool). cond b (setting_behind (record { field = key; rest = big_bytes 4 setting.number ++ (field_bytes setting.value ++ rest) })) None)
    follows
    ∙ behind_reads key setting rest is_number is

abbrev key_or : Option (List ℕ) → List ℕ
key_or None = []
key_or (Some key) = key

follow_first : (last : Option (List ℕ)) (keys : List (List ℕ)) → AllByRecursion (λ k. key_cmp (key_or last) k ≡ Less) keys
    → AllByRecursion (λ k. may_follow last k ≡ true) keys
follow_first last [] all = tt
follow_first None (k ∷ keys) all = (refl, follow_first None keys all.1)
follow_first (Some low) (k ∷ keys) all = (ap (λ o. is_lt o) all.0, follow_first (Some low) keys all.1)

settings_read : (last : Option (List ℕ)) (contents : Contents) → AllByRecursion (λ k. may_follow last k ≡ true) (keys_of contents)
    → IsStrictlySortedBy key_cmp (keys_of contents)
    → All IsKey (keys_of contents) → All (λ setting. IsValue setting.value) (values_of contents)
    → All (λ setting. NumberIsInRange setting.number) (values_of contents)
    → settings_in (length contents) last (flat_map setting_bytes contents) ≡ Some contents
unfolding settings_in IsStrictlySortedBy
settings_read last [] follow ordered keys values numbers = refl
settings_read last (e ∷ contents) follow ordered keys values numbers =
    let first = setting_reads last e.0 e.1 (flat_map setting_bytes contents) follow.0 (all_holds_of_first IsKey e.0 (keys_of contents) keys)
    (all_holds_of_first (λ (s : Setting). NumberIsInRange s.number) e.1 (values_of contents) numbers) (all_holds_of_first (λ (s : Setting). IsValue s.value) e.1 (values_of
    contents) values) in
    let others = settings_read (Some e.0) contents (follow_first (Some e.0) (keys_of contents) ordered.0) ordered.1 (all_holds_of_rest IsKey e.0 (keys_of
    contents) keys)
    (all_holds_of_rest (λ (s : Setting). IsValue s.value) e.1 (values_of contents) values) (all_holds_of_rest (λ (s : Setting). NumberIsInRange s.number) e.1 (values_of contents)
    numbers) in
    ap (λ (o : Option ReadKey). o >>= λ read. option_map (λ more. (read.key, read.setting) ∷ more) (settings_in (length contents) (Some read.key)
    read.rest)) first
    ∙ ap (λ (o : Option Contents). option_map (λ more. e ∷ more) o) others

head_reads : (join count : ℕ) (rest : List ℕ) → NumberIsInRange join → count ≤ most_keys
    → head_in (head_bytes join count ++ rest) ≡ Some (record { join = join; count = count; rest = rest })
unfolding head_in head_behind
head_reads join count rest is_number few =
    let below : count < 65536 = omega (arith, few) in
    let test : nat_le count 256 ≡ true = grind (arith, nat_tests) in
    ap (λ (x : List ℕ). head_in x) (append_assoc (4 ∷ big_bytes 4 join) (big_bytes 2 count) rest)
    ∙ ap (λ (o : Option Numbered). o >>= λ j. (number_in 2 j.rest >>= λ c. cond (nat_le c.number most_keys) (Some (record {
      join = j.number;
      count =
          c.number;
      rest = c.rest;
    })) None))
    (limited_reads join (big_bytes 2 count ++ rest) is_number)
    ∙ ap (λ (o : Option Numbered). o >>= λ c. cond (nat_le c.number most_keys) (Some (record { join = join; count = c.number; rest = c.rest })) None)
    (number_reads 2 count rest below)
    ∙ ap (λ (b : Bool). cond b (Some (record { join = join; count = count; rest = rest })) None) test

follow_none : (keys : List (List ℕ)) → AllByRecursion (λ k. may_follow None k ≡ true) keys
follow_none [] = tt
follow_none (k ∷ keys) = (refl, follow_none keys)

-- the snapshot of contents is read as them
pub snapshot_in_of_snapshot_of : (contents : Contents) (join : ℕ) → IsContents contents → NumberIsInRange join → snapshot_in (snapshot_of contents join) ≡ Some (join, contents)
unfolding snapshot_in snapshot_of
snapshot_in_of_snapshot_of contents join c is_number =
    let d = c.directory in
    ap (λ (o : Option SnapshotHead). o >>= λ head. option_map (λ (x : Contents). (head.join, x)) (settings_in head.count None head.rest))
    (head_reads join (length contents) (flat_map setting_bytes contents) is_number d.few)
    ∙ ap (λ (o : Option Contents). option_map (λ (x : Contents). (join, x)) o)
    (settings_read None contents (follow_none (keys_of contents)) d.ordered d.keys d.values c.numbers)

pub snapshots_are_their_own_bytes : SnapshotsAreTheirBytes
snapshots_are_their_own_bytes bytes join contents fits = (
  λ read. snapshot_is bytes join contents fits read,
  λ is. ap (λ (x : List ℕ). snapshot_in x) is.same ∙ snapshot_in_of_snapshot_of contents join is.within is.number,
)
