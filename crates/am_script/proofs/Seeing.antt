-- Looking into a tree is looking into its data.
use Rattle.std.proofs.Common.{◌≡◌, ℕ, List, [], ◌∷◌, Bool, true, false, ◌&&◌, cond, Option, Some, None, option_map, option_and_then, refl, sym, ap, ◌∙◌, subst}
use Rattle.std.proofs.Common.{Vec, bytes_eq, Bor, Ordering, Less, Equal, Greater, nat_cmp, is_eq}
use Rattle.std.proofs.lemmas.Map.Text.{is_eq-slice_cmp}
use Rattle.std.specs.Ordering.{match_ordering}
use Rattle.std.specs.Cmp.Lexicographic.{slice_cmp}
use Rattle.std.proofs.lemmas.Slice.Eq.{bytes_eq-Decides}
use Rattle.std.specs.List.{list_all}
use Rattle.std.specs.Option.{option_map_or}
use Rattle.json.specs.Json as json
use Rattle.json.specs.Find as finds
use Rattle.json.specs.Value.{members_view}
use Rattle.json.specs.declared.value.Value.{Value}
use Rattle.json.specs.declared.value.Value.TheVariants.{Object}
use Rattle.serde_json.specs.Data.{Num, Data, null, number, Members, no_members, member, put}
use Rattle.serde_json.specs.Find.{get, get_member, as_str, as_bool, as_number, as_u64, as_object, as_array}
use Rattle.serde_json.specs.Read.{number_of}
use Rattle.serde_json.proofs.Views.{get_member-put, get_member-put_other}
use Rattle.json.proofs.Trees.{view-Object}
use Rattle.am_script_defs.specs.declared.key.ScriptKey.{ScriptKey}
use Rattle.am_script_defs.specs.Keys.{words_of, is_among, has_only}
use Rattle.am_script.specs.Seen.{data_of, items_of, members_of, whole_of, seen}

number_seen : {A : Type 0} (f : Data → A) (end : A) (found : Option Num) → (found ≡ None → f null ≡ end) → ((n : Num) → found ≡ Some n → f (number n) ≡ end)
    → f (option_map_or number found null) ≡ end
number_seen f end None no_number fits = no_number refl
number_seen f end (Some n) no_number fits = fits n refl

-- what is seen of data is seen of a tree, where that is so of each kind of tree, and of a number that fits and one that doesn't
seen_of : {A : Type 0} (f : Data → A) (g : json.Json → A) → f null ≡ g json.null → ((b : Bool) → f (data_of (json.boolean b)) ≡ g (json.boolean b))
    → ((s : List ℕ) → number_of s ≡ None → f null ≡ g (json.number s)) → ((s : List ℕ) (n : Num) → number_of s ≡ Some n → f (number n) ≡ g (json.number s))
    → ((s : List ℕ) → f (data_of (json.string s)) ≡ g (json.string s)) → ((js : json.Items) → f (data_of (json.array js)) ≡ g (json.array js))
    → ((ms : json.Members) → f (data_of (json.object ms)) ≡ g (json.object ms)) → (j : json.Json) → f (data_of j) ≡ g j
seen_of f g none flag no_number fits text list object json.null = none
seen_of f g none flag no_number fits text list object (json.boolean b) = flag b
seen_of f g none flag no_number fits text list object (json.number s) = number_seen f (g (json.number s)) (number_of s) (no_number s) (fits s)
seen_of f g none flag no_number fits text list object (json.string s) = text s
seen_of f g none flag no_number fits text list object (json.array js) = list js
seen_of f g none flag no_number fits text list object (json.object ms) = object ms

pub as_str_of_json_data : (j : json.Json) → as_str (data_of j) ≡ finds.as_str j
as_str_of_json_data = seen_of as_str finds.as_str refl (λ b. refl) (λ s is. refl) (λ s n is. refl) (λ s. refl) (λ js. refl) (λ ms. refl)

pub as_bool_of_json_data : (j : json.Json) → as_bool (data_of j) ≡ finds.as_bool j
as_bool_of_json_data = seen_of as_bool finds.as_bool refl (λ b. refl) (λ s is. refl) (λ s n is. refl) (λ s. refl) (λ js. refl) (λ ms. refl)

pub as_whole_of_json_data : (j : json.Json) → option_and_then as_u64 (as_number (data_of j)) ≡ option_and_then whole_of (finds.as_number j)
as_whole_of_json_data = seen_of (λ d. option_and_then as_u64 (as_number d)) (λ j. option_and_then whole_of (finds.as_number j)) refl (λ b. refl)
    (λ s is. ap (option_and_then as_u64) (sym is)) (λ s n is. ap (option_and_then as_u64) (sym is)) (λ s. refl) (λ js. refl) (λ ms. refl)

pub as_array_of_json_data : (j : json.Json) → as_array (data_of j) ≡ option_map items_of (finds.as_array j)
as_array_of_json_data = seen_of as_array (λ j. option_map items_of (finds.as_array j)) refl (λ b. refl) (λ s is. refl) (λ s n is. refl) (λ s. refl) (λ js. refl) (λ ms. refl)

pub as_object_of_json_data : (j : json.Json) → as_object (data_of j) ≡ option_map (λ ms. members_of ms no_members) (finds.as_object j)
as_object_of_json_data = seen_of as_object (λ j. option_map (λ ms. members_of ms no_members) (finds.as_object j)) refl (λ b. refl) (λ s is. refl) (λ s n is. refl)
    (λ s. refl) (λ js. refl) (λ ms. refl)

-- ---- members

abbrev or_else : {A : Type 0} → Option A → Option A → Option A
or_else (Some x) other = Some x
or_else None other = other

or_none : {A : Type 0} (found : Option A) → or_else found None ≡ found
or_none (Some x) = refl
or_none None = refl

put_found : (later : Option json.Json) (b : Bool) (k l : List ℕ) (j : json.Json) (found : Members) → bytes_eq l k ≡ b
    → or_else (option_map data_of later) (get_member k (put l (data_of j) found))
    ≡ or_else (option_map data_of (finds.later_or later (cond b (Some j) None))) (get_member k found)
put_found (Some x) b k l j found is = refl
put_found None true k l j found is =
    subst (λ (x : List ℕ). get_member x (put l (data_of j) found) ≡ Some (data_of j)) ((bytes_eq-Decides l k).0 is) (get_member-put l (data_of j) found)
put_found None false k l j found is =
    get_member-put_other k l (data_of j) found (λ h. let clash : true ≡ false = sym ((bytes_eq-Decides l k).1 (sym h)) ∙ is in cc)

members_get : (k : List ℕ) (ms : json.Members) (found : Members)
    → get_member k (members_of ms found) ≡ or_else (option_map data_of (finds.get_member k ms)) (get_member k found)
members_get k json.no_members found = refl
members_get k (json.member l j ms) found = members_get k ms (put l (data_of j) found) ∙ put_found (finds.get_member k ms) (bytes_eq l k) k l j found refl

member_seen : (k : List ℕ) (j : json.Json) → get k (data_of j) ≡ option_map data_of (finds.get k j)
member_seen k = seen_of (get k) (λ j. option_map data_of (finds.get k j)) refl (λ b. refl) (λ s is. refl) (λ s n is. refl) (λ s. refl) (λ js. refl)
    (λ ms. members_get k ms no_members ∙ or_none (option_map data_of (finds.get_member k ms)))

-- ---- their words

abbrev all_keys : (List ℕ → Bool) → json.Members → Bool
all_keys p json.no_members = true
all_keys p (json.member k j ms) = p k && all_keys p ms

twice : (a b : Bool) → (a && b) ≡ (a && (a && b))
twice true b = refl
twice false b = refl

swapped : (a b c : Bool) → (a && (b && c)) ≡ (b && (a && c))
swapped true b c = refl
swapped false true c = refl
swapped false false c = refl

put_at : (o : Ordering) (p : List ℕ → Bool) (k l : List ℕ) (d e : Data) (ms : Members) → slice_cmp nat_cmp k l ≡ o
    → list_all p (words_of (put k d ms)) ≡ (p k && list_all p (words_of ms))
    → list_all p (words_of (match_ordering o (member k d (member l e ms)) (member l d ms) (member l e (put k d ms)))) ≡ (p k && (p l && list_all p (words_of ms)))
put_at Less p k l d e ms is later = refl
put_at Equal p k l d e ms is later =
    let same : k ≡ l = (bytes_eq-Decides k l).0 (sym (is_eq-slice_cmp k l) ∙ ap is_eq is) in
    subst (λ (x : List ℕ). (p l && list_all p (words_of ms)) ≡ (p x && (p l && list_all p (words_of ms)))) (sym same) (twice (p l) (list_all p (words_of ms)))
put_at Greater p k l d e ms is later = ap (λ b. p l && b) later ∙ swapped (p l) (p k) (list_all p (words_of ms))

put_words : (p : List ℕ → Bool) (k : List ℕ) (d : Data) (ms : Members) → list_all p (words_of (put k d ms)) ≡ (p k && list_all p (words_of ms))
put_words p k d no_members = refl
put_words p k d (member l e ms) = put_at (slice_cmp nat_cmp k l) p k l d e ms refl (put_words p k d ms)

and_last : (a b c : Bool) → (b && (a && c)) ≡ ((a && b) && c)
and_last true b c = refl
and_last false true c = refl
and_last false false c = refl

members_words : (p : List ℕ → Bool) (ms : json.Members) (found : Members)
    → list_all p (words_of (members_of ms found)) ≡ (all_keys p ms && list_all p (words_of found))
members_words p json.no_members found = refl
members_words p (json.member k j ms) found =
    members_words p ms (put k (data_of j) found) ∙ ap (λ b. all_keys p ms && b) (put_words p k (data_of j) found)
    ∙ and_last (p k) (all_keys p ms) (list_all p (words_of found))

and_true : (a : Bool) → (a && true) ≡ a
and_true true = refl
and_true false = refl

view_keys : {A : Type 0} (p : List ℕ → Bool) (ms : List (Bor (List ℕ) × Value A)) → all_keys p (members_view ms) ≡ list_all (λ m. p m.0.now) ms
view_keys p [] = refl
view_keys p (m ∷ ms) = ap (λ b. p m.0.now && b) (view_keys p ms)

-- the words of an object are those of its members
words_seen : {A : Type 0} (p : List ℕ → Bool) (ms : List (Bor (List ℕ) × Value A))
    → list_all p (words_of (members_of (members_view ms) no_members)) ≡ list_all (λ m. p m.0.now) ms
words_seen p ms = members_words p (members_view ms) no_members ∙ and_true (all_keys p (members_view ms)) ∙ view_keys p ms

-- ---- of trees

map_twice : {V : Type 0} (found : Option V) (f : V → json.Json) → option_map (λ v. data_of (f v)) found ≡ option_map data_of (option_map f found)
map_twice None f = refl
map_twice (Some v) f = refl

pub get_of_json_data : {V : Type 0} (found : Option V) (f : V → json.Json) (word named : List ℕ) (j : json.Json) → word ≡ named → option_map f found ≡ finds.get word j
    → option_map (λ v. data_of (f v)) found ≡ get named (data_of j)
get_of_json_data found f word named j same is =
    map_twice found f ∙ ap (option_map data_of) is ∙ sym (member_seen word j) ∙ ap (λ w. get w (data_of j)) same

pub has_only_of_json_data : {A : Type 0} (keys : List ScriptKey) (v : Vec (Bor (List ℕ) × Value A) A) → list_all (λ m. is_among keys m.0.now) v.items ≡ has_only keys (seen (Object v))
has_only_of_json_data keys v =
    sym (words_seen (is_among keys) v.items) ∙ ap (λ j. has_only keys (data_of j)) (sym (view-Object v))
