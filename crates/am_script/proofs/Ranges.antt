-- What serde_json reads of a value: its data, where no number is out of range, and else nothing.
use Rattle.std.proofs.Common.{◌≡◌, ℕ, List, [], ◌∷◌, append-nil, Bool, true, false, ◌&&◌, cond, Option, Some, None, is_some, option_map, option_and_then, refl, sym, ap, ◌∙◌}
use Rattle.std.specs.List.{list_all}
use Rattle.std.proofs.lemmas.List.Folds.{list_all-append}
use Rattle.std.specs.Option.{option_map_or}
use Rattle.json.specs.Json as json
use Rattle.json.specs.Json.{value}
use Rattle.json.specs.Lex.{tokens}
use Rattle.json.specs.Token.{Token}
use Rattle.json.specs.Tree.{json_tokens, items_tokens, members_tokens}
use Rattle.serde_json.specs.Data.{Num, Data, null, number, array, object, Items, item, Members, no_members, put}
use Rattle.serde_json.specs.Read as reads
use Rattle.serde_json.specs.Read.{number_of, read}
use Rattle.json.proofs.Unique.Spelling.{value-json_tokens_back}
use Rattle.am_script.specs.Seen.{data_of, items_of, members_of, is_in_range, most_depth}

abbrev where_all : {A : Type 0} → List Token → A → Option A
where_all ts a = cond (list_all is_in_range ts) (Some a) None

of_number : (found : Option Num) → option_map number found ≡ cond (is_some found && true) (Some (option_map_or number found null)) None
of_number None = refl
of_number (Some n) = refl

of_array : (b : Bool) (js : Items) → option_map array (cond b (Some js) None) ≡ cond b (Some (array js)) None
of_array true js = refl
of_array false js = refl

of_object : (b : Bool) (ms : Members) → option_map object (cond b (Some ms) None) ≡ cond b (Some (object ms)) None
of_object true ms = refl
of_object false ms = refl

of_item : (a b : Bool) (d : Data) (ds : Items) → option_and_then (λ x. option_map (item x) (cond b (Some ds) None)) (cond a (Some d) None) ≡ cond (a && b) (Some (item d ds)) None
of_item true true d ds = refl
of_item true false d ds = refl
of_item false b d ds = refl

of_member : (a b : Bool) (d : Data) (f : Data → Option Members) (ms : Members) → f d ≡ cond b (Some ms) None → option_and_then f (cond a (Some d) None) ≡ cond (a && b) (Some ms) None
of_member true b d f ms is = is
of_member false b d f ms is = refl

mutual
  pub read_of_json_in_range : (j : json.Json) → reads.of_json j ≡ where_all (json_tokens j) (data_of j)
  read_of_json_in_range json.null = refl
  read_of_json_in_range (json.boolean b) = refl
  read_of_json_in_range (json.number s) = of_number (number_of s)
  read_of_json_in_range (json.string s) = refl
  read_of_json_in_range (json.array js) = ap (option_map array) (items_read js) ∙ of_array (list_all is_in_range (items_tokens js)) (items_of js)
  read_of_json_in_range (json.object ms) = ap (option_map object) (members_read ms no_members) ∙ of_object (list_all is_in_range (members_tokens ms)) (members_of ms no_members)

  items_read : (js : json.Items) → reads.of_items js ≡ where_all (items_tokens js) (items_of js)
  items_read json.no_items = refl
  items_read (json.item j js) =
      rw (read_of_json_in_range j, items_read js, list_all-append is_in_range (json_tokens j) (items_tokens js))
      (of_item (list_all is_in_range (json_tokens j)) (list_all is_in_range (items_tokens js)) (data_of j) (items_of js))

  members_read : (ms : json.Members) (found : Members) → reads.of_members ms found ≡ where_all (members_tokens ms) (members_of ms found)
  members_read json.no_members found = refl
  members_read (json.member k j ms) found =
      rw (read_of_json_in_range j, list_all-append is_in_range (json_tokens j) (members_tokens ms))
      (of_member (list_all is_in_range (json_tokens j)) (list_all is_in_range (members_tokens ms)) (data_of j) (λ d. reads.of_members ms (put k d found))
      (members_of ms (put k (data_of j) found)) (members_read ms (put k (data_of j) found)))

abbrev of_found : Option (json.Json × List Token) → Option Data
of_found found = option_and_then reads.of_json (option_and_then (λ p. json.if_last p.0 p.1) found)

-- the data of a text whose tokens are all those of one value
text_read : (text : List ℕ) (j : json.Json) → value most_depth (tokens text) ≡ Some (j, []) → read text ≡ where_all (tokens text) (data_of j)
text_read text j is =
    let spelled : tokens text ≡ json_tokens j = value-json_tokens_back most_depth (tokens text) [] j is ∙ append-nil (json_tokens j) in
    ap of_found is ∙ read_of_json_in_range j ∙ ap (λ ts. where_all ts (data_of j)) (sym spelled)

pub read_of_text_in_range : (text : List ℕ) (j : json.Json) → value most_depth (tokens text) ≡ Some (j, []) → list_all is_in_range (tokens text) ≡ true
    → read text ≡ Some (data_of j)
read_of_text_in_range text j is fits = text_read text j is ∙ ap (λ b. cond b (Some (data_of j)) None) fits

none_at : (text : List ℕ) (found : Option (json.Json × List Token)) → value most_depth (tokens text) ≡ found → list_all is_in_range (tokens text) ≡ false
    → read text ≡ None
none_at text None is out = ap of_found is
none_at text (Some (j, [])) is out = text_read text j is ∙ ap (λ b. cond b (Some (data_of j)) None) out
none_at text (Some (j, t ∷ r)) is out = ap of_found is

-- a text with a number out of range is no JSON
pub read_out_of_range : (text : List ℕ) → list_all is_in_range (tokens text) ≡ false → read text ≡ None
read_out_of_range text out = none_at text (value most_depth (tokens text)) refl out
