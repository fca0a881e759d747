-- The keys of scripts, and values at them.
use Rattle.std.specs.Prelude.{ℕ, List, [], ◌∷◌, Bool, false, Option, codes, bytes_eq}
use Rattle.std.specs.List.{list_all, list_any}
use Rattle.std.specs.Option.{option_map_or}
use Rattle.serde_json.specs.Data.{Data, Members, no_members, member}
use Rattle.serde_json.specs.Find.{get, as_object}
use Rattle.am_script_defs.specs.declared.key.ScriptKey.{ScriptKey}
use Rattle.am_script_defs.specs.declared.key.ScriptKey.TheVariants.{Top, Play, Race, Founders, Resilience, Window, PbUpTo, Settle, Events, Seed, Loss, Repeat, Turns}
use Rattle.am_script_defs.specs.declared.key.ScriptKey.TheVariants.{Threads, Node, Calls, Do, Body, Req, Least, Round, Name, Life, Packet, Keep}

-- the word of a key; the whole document has none
abbrev pub key_word : ScriptKey → List ℕ
key_word Top = []
key_word Play = codes "play"
key_word Race = codes "race"
key_word Founders = codes "founders"
key_word Resilience = codes "resilience"
key_word Window = codes "window"
key_word PbUpTo = codes "pb_up_to"
key_word Settle = codes "settle"
key_word Events = codes "events"
key_word Seed = codes "seed"
key_word Loss = codes "loss"
key_word Repeat = codes "repeat"
key_word Turns = codes "turns"
key_word Threads = codes "threads"
key_word Node = codes "node"
key_word Calls = codes "calls"
key_word Do = codes "do"
key_word Body = codes "body"
key_word Req = codes "req"
key_word Least = codes "least"
key_word Round = codes "round"
key_word Name = codes "name"
key_word Life = codes "life"
key_word Packet = codes "packet"
key_word Keep = codes "keep"

-- the words of an object's members
abbrev pub words_of : Members → List (List ℕ)
words_of no_members = []
words_of (member word d ms) = word ∷ words_of ms

-- the word is that of one of the keys
abbrev pub is_among : List ScriptKey → List ℕ → Bool
is_among keys word = list_any (λ key. bytes_eq (key_word key) word) keys

-- an object whose words are all those of these keys
abbrev pub has_only : List ScriptKey → Data → Bool
has_only keys d = option_map_or (λ ms. list_all (is_among keys) (words_of ms)) (as_object d) false

-- the value at a key
abbrev pub value_at : ScriptKey → Data → Option Data
value_at key d = get (key_word key) d
