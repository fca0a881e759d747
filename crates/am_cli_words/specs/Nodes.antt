-- The options of the word node.
use Rattle.std.specs.Prelude.{ℕ, List, [], ◌∷◌, codes, Option, Some, None, option_map, option_and_then, unwrap_or, Bool, ◌&&◌, nat_eq, nat_lt, nat_le, if◌then◌else◌}
use Rattle.std.specs.Cmp.Lexicographic.{pointwise}
use Rattle.std.specs.List.{list_all}
use Rattle.std.specs.Result.{result_ok}
use Rattle.am_base.specs.Most.{greatest_window, most_bytes_of_body}
use Rattle.am_base.specs.Founding.{Rules, rules_of}
use Rattle.am_base.specs.Names.{size}
use Rattle.am_text_defs.specs.Fields.{number_up_to, name_in_text, names_in_text}
use Rattle.am_cli_words.specs.declared.node.NodeWords.{NodeWords}
use Rattle.am_cli_words.specs.declared.node.Options.{Options}

-- whether two texts are the same, byte by byte
abbrev pub same_text : List ℕ → List ℕ → Bool
same_text text other = pointwise nat_eq text other

-- ---- with one option more, which wasn't there

abbrev pub unless_given : {A : Type 0} → Option A → A → Option (Option A)
unless_given None read = Some (Some read)
unless_given (Some there) read = None

-- with what is read, where it wasn't there
abbrev pub with_option : {A : Type 0} → Option A → Option A → (Option A → Options) → Option Options
with_option read there with_it = option_and_then (λ new. option_map with_it (unless_given there new)) read

abbrev pub put_name : Options → List ℕ → Option Options
put_name options value = with_option (result_ok (name_in_text value)) options.name (λ name. record options { name = name })

abbrev pub put_founders : Options → List ℕ → Option Options
put_founders options value = with_option (result_ok (names_in_text value)) options.founders (λ names. record options { founders = names })

abbrev pub put_resilience : Options → List ℕ → Option Options
put_resilience options value = with_option (result_ok (number_up_to 15 value)) options.resilience (λ n. record options { resilience = n })

abbrev pub put_window : Options → List ℕ → Option Options
put_window options value = with_option (result_ok (number_up_to greatest_window value)) options.window (λ n. record options { window = n })

abbrev pub put_pb_up_to : Options → List ℕ → Option Options
put_pb_up_to options value = with_option (result_ok (number_up_to most_bytes_of_body value)) options.pb_up_to (λ n. record options { pb_up_to = n })

-- an option by its word
abbrev pub put_option : Options → List ℕ → List ℕ → Option Options
put_option options option value =
    if same_text option (codes "--name") then put_name options value
    else if same_text option (codes "--founders") then put_founders options value
    else if same_text option (codes "--resilience") then put_resilience options value
    else if same_text option (codes "--window") then put_window options value
    else if same_text option (codes "--pb-up-to") then put_pb_up_to options value
    else None

-- ---- options in turn, each with its value after it

unfoldable pub options_from : Options → List (List ℕ) → Option Options
options_from options [] = Some options
options_from options (option ∷ []) = None
options_from options (option ∷ value ∷ words) = option_and_then (λ more. options_from more words) (put_option options option value)

abbrev pub no_options : Options
no_options = record { name = None; founders = None; resilience = None; window = None; pb_up_to = None }

-- ---- the node that they ask for

-- there is somebody, everybody has life 1, and each number is within its limit
abbrev pub may_found : Rules → Bool
may_found r = nat_lt 0 (size r.founders) && (list_all (λ life. nat_le life 1) r.founders
    && (nat_le r.resilience 15 && (nat_lt 0 r.window && (nat_le r.window greatest_window && nat_le r.pb_up_to most_bytes_of_body))))

abbrev pub founding_of : List ℕ → ℕ → ℕ → ℕ → Option Rules
founding_of founders resilience window pb_up_to =
    if may_found (rules_of founders resilience window pb_up_to) then Some (rules_of founders resilience window pb_up_to) else None

-- a name and a founding; without more the resilience is 0, the window 64, and bodies up to 256 bytes go by the sequencer
abbrev pub node_words_of : Option ℕ → Option Rules → Option NodeWords
node_words_of None founding = None
node_words_of (Some name) founding = option_map (λ rules. record { name = name; founding = rules }) founding

abbrev pub node_words_with : Options → Option NodeWords
node_words_with options = node_words_of options.name
    (option_and_then (λ founders. founding_of founders (unwrap_or options.resilience 0) (unwrap_or options.window 64) (unwrap_or options.pb_up_to 256)) options.founders)

-- what the words after node ask for
unfoldable pub node_words_in : List (List ℕ) → Option NodeWords
node_words_in words = option_and_then node_words_with (options_from no_options words)
