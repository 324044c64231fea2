-- What the words behind `load` and `look` ask for (this project's own format).
use Rattle.std.specs.Prelude.{ℕ, List, [], ◌∷◌, Option, Some, None, if◌then◌else◌, option_and_then, codes}
use Rattle.std.specs.Str.{bytes_eq}
use Rattle.disco_values.specs.declared.form.Form.{Form}
use Rattle.disco_values.specs.declared.form.Form.TheVariants.{Full, Compact}
use Rattle.disco_values.specs.declared.query.Query.{Query}
use Rattle.disco_values.specs.declared.query.Query.TheVariants as queries
use Rattle.disco_world.specs.declared.event.Step.{Step}
use Rattle.disco_world.specs.declared.event.Step.TheVariants.{Load, LoadById, Look, LookById}
use Rattle.disco_operations.specs.Decoding.{decoded_text}
use Rattle.disco_lines.specs.declared.load.Target.{Target}
use Rattle.disco_lines.specs.declared.load.Target.TheVariants.{ByKey, ById}

-- `full` or `compact`
abbrev pub form_named : List ℕ → Option Form
form_named name = if bytes_eq name (codes "full") then Some Full else (if bytes_eq name (codes "compact") then Some Compact else None)

-- what a query asks for, in a form
abbrev pub target_by : Form → Query → Target
target_by form query = ByKey (record { query = query; form = form })

-- `apps` or `delta`
abbrev pub whole_target : Form → List ℕ → Option Target
whole_target form kind = if bytes_eq kind (codes "apps") then Some (target_by form queries.Apps) else
    (if bytes_eq kind (codes "delta") then Some (target_by form queries.Delta) else None)

-- `app NAME`, `vip VIP`, `svip SVIP` or `id ID`
abbrev pub named : Form → List ℕ → List ℕ → Option Target
named form kind text =
    if bytes_eq kind (codes "app") then Some (target_by form (queries.App text))
    else (if bytes_eq kind (codes "vip") then Some (target_by form (queries.Vip text))
    else (if bytes_eq kind (codes "svip") then Some (target_by form (queries.Svip text))
    else (if bytes_eq kind (codes "id") then Some (ById text form) else None)))

-- `one APP ID`
abbrev pub one_target : Form → List ℕ → List ℕ → List ℕ → Option Target
one_target form kind app id = if bytes_eq kind (codes "one") then Some (target_by form (queries.Instance (record { app = app; id = id }))) else None

-- what a kind of query and the words behind it ask for
abbrev pub target_of_kind : Form → List ℕ → List (List ℕ) → Option Target
target_of_kind form kind [] = whole_target form kind
target_of_kind form kind (word ∷ []) = option_and_then (named form kind) (decoded_text word)
target_of_kind form kind (app ∷ id ∷ []) = option_and_then (λ a. option_and_then (one_target form kind a) (decoded_text id)) (decoded_text app)
target_of_kind form kind _ = None

-- `FORM QUERY`
abbrev pub target : List (List ℕ) → Option Target
target (form ∷ kind ∷ more) = option_and_then (λ f. option_and_then (λ k. target_of_kind f k more) (decoded_text kind))
    (option_and_then form_named (decoded_text form))
target _ = None

-- the load of what is asked for
abbrev pub load_of : Target → Step
load_of (ByKey key) = Load key
load_of (ById id form) = LoadById id form

-- the look for what is asked for
abbrev pub look_for : Target → Step
look_for (ByKey key) = Look key
look_for (ById id form) = LookById id form
