-- The text of an object, group by group.
use Rattle.std.proofs.Common.{◌≡◌, ℕ, ◌<◌, Bool, true, false, List, [], ◌∷◌, ◌++◌, fold, flat_map, map, length, Option, Some, None, refl, ap, sym, subst, ◌∙◌, append_assoc, append-nil, arith}
use Rattle.std.specs.List.{AllByRecursion}
use Rattle.std.specs.Str.{IsUtf8}
use Rattle.std.proofs.lemmas.List.Concat.{flat_map-append}
use Rattle.std.proofs.lemmas.List.Sums.{fold-append}
use Rattle.std.proofs.lemmas.Str.{IsUtf8-append}
use Rattle.json.specs.Json as json
use Rattle.json.specs.Print.{ends, print, print_from}
use Rattle.json.specs.Token.{Token, begin_object, end_object, key}
use Rattle.json.specs.Tree.{items_tokens, json_tokens, members_tokens}
use Rattle.json.proofs.Printed.Tokens.{print_from-append}
use Rattle.json.proofs.Printed.Utf8.{IsUtf8-are_ascii}
use Rattle.serde_json.specs.Data.{Data}
use Rattle.serde_json.specs.Written.{compact_text, members_outline, outline}
use Rattle.serde_json.proofs.Texts.{print-outline}
use Rattle.disco_values.specs.declared.action.Action.{Action}
use Rattle.disco_values.specs.declared.form.Form.TheVariants.{Full, Compact}
use Rattle.disco_instance.specs.Row.{Row}
use Rattle.disco_wire.specs.Written.{in_order, instance_tree, tree}
use Rattle.disco_writer.specs.Fields.{Fields}
use Rattle.disco_writer.specs.Kept.{mention_tree}
use Rattle.disco_writer.specs.Groups.{AppendsUtf8, IsObjectFront, behind_comma, compact_groups, flat, full_groups, group_fields, group_text, member_tokens, object_front}
use Rattle.disco_writer.specs.declared.groups.Group.{Group}
use Rattle.disco_writer.specs.declared.groups.Group.TheVariants as group

-- ---- members

append_tokens : (fs gs : List (List ℕ × Data)) → member_tokens (fs ++ gs) ≡ member_tokens fs ++ member_tokens gs
append_tokens [] gs = refl
append_tokens (f ∷ fs) gs = ap (λ ts. key f.0 ∷ (json_tokens (outline f.1) ++ ts)) (append_tokens fs gs) ∙ ap (λ ts. key f.0 ∷ ts) (sym (append_assoc (json_tokens (outline f.1)) (member_tokens fs) (member_tokens gs)))

-- an object's tokens are those of its members between brackets
tree_tokens : (fs : List (List ℕ × Data)) → json_tokens (outline (tree fs)) ≡ begin_object ∷ (member_tokens fs ++ end_object ∷ [])
tree_tokens fs = ap (λ ts. begin_object ∷ ts) (inner fs)
  where
    inner : (fs : List (List ℕ × Data)) → members_tokens (members_outline (in_order fs)) ≡ member_tokens fs ++ end_object ∷ []
    inner [] = refl
    inner (f ∷ fs) = ap (λ ts. key f.0 ∷ (json_tokens (outline f.1) ++ ts)) (inner fs) ∙ ap (λ ts. key f.0 ∷ ts) (sym (append_assoc (json_tokens (outline f.1)) (member_tokens fs) (end_object ∷ [])))

-- ---- a group is appended

-- the first one
pub first : {old text : List ℕ} {fs : Fields} → old ≡ [] → AppendsUtf8 old text (123 ∷ group_text fs) → IsObjectFront text (fs ∷ [])
first {old = old} {text = text} {fs = fs} empty adds =
    let items : text ≡ 123 ∷ group_text fs = adds.items ∙ ap (λ (s : List ℕ). s ++ 123 ∷ group_text fs) empty in
    record { items = items ∙ ap (λ (s : List ℕ). 123 ∷ s) (sym (append-nil (group_text fs))); utf8 = subst IsUtf8 (sym items) adds.utf8 }

behind_more : (rs : List Fields) (fs : Fields) → flat_map behind_comma (rs ++ fs ∷ []) ≡ flat_map behind_comma rs ++ behind_comma fs
behind_more rs fs = flat_map-append behind_comma rs (fs ∷ []) ∙ ap (λ (s : List ℕ). flat_map behind_comma rs ++ s) (append-nil (behind_comma fs))

-- one more
pub more : {old text : List ℕ} {f : Fields} {rs : List Fields} (fs : Fields) → IsObjectFront old (f ∷ rs) → AppendsUtf8 old text (behind_comma fs) → IsObjectFront text (f ∷ (rs ++ fs ∷ []))
more {old = old} {text = text} {f = f} {rs = rs} fs is adds = record {
  items = adds.items ∙ ap (λ (s : List ℕ). s ++ behind_comma fs) is.items ∙ ap (λ (s : List ℕ). 123 ∷ s) (append_assoc (group_text f) (flat_map behind_comma rs) (behind_comma fs)
      ∙ ap (λ (s : List ℕ). group_text f ++ s) (sym (behind_more rs fs)));
  utf8 = subst IsUtf8 (sym adds.items) (IsUtf8-append old (behind_comma fs) is.utf8 adds.utf8);
}

-- ---- each value and each group ends a value

abbrev after : Bool → List Token → Bool
after c ts = fold (λ _ t. ends t) c ts

after_both : (c : Bool) (ts us : List Token) → after c (ts ++ us) ≡ after (after c ts) us
after_both c ts us = fold-append (λ _ t. ends t) c ts us

mutual
  ends_json : (c : Bool) (j : json.Json) → after c (json_tokens j) ≡ true
  ends_json c json.null = refl
  ends_json c (json.boolean b) = refl
  ends_json c (json.number s) = refl
  ends_json c (json.string s) = refl
  ends_json c (json.array js) = ends_items false js
  ends_json c (json.object ms) = ends_members false ms

  ends_items : (c : Bool) (js : json.Items) → after c (items_tokens js) ≡ true
  ends_items c json.no_items = refl
  ends_items c (json.item j js) = after_both c (json_tokens j) (items_tokens js) ∙ ends_items (after c (json_tokens j)) js

  ends_members : (c : Bool) (ms : json.Members) → after c (members_tokens ms) ≡ true
  ends_members c json.no_members = refl
  ends_members c (json.member k j ms) = after_both false (json_tokens j) (members_tokens ms) ∙ ends_members (after false (json_tokens j)) ms

abbrev IsGroup : Fields → Type 0
IsGroup fs = 0 < length fs

ends_group : (c : Bool) (fs : Fields) → IsGroup fs → after c (member_tokens fs) ≡ true
ends_group c [] some = absurd (omega arith)
ends_group c (f ∷ []) some = after_both false (json_tokens (outline f.1)) [] ∙ ends_json false (outline f.1)
ends_group c (f ∷ g ∷ fs) some = after_both false (json_tokens (outline f.1)) (member_tokens (g ∷ fs)) ∙ ends_group (after false (json_tokens (outline f.1))) (g ∷ fs) (omega arith)

-- ---- the whole object

with_comma : (fs : Fields) → IsGroup fs → print_from true (member_tokens fs) ≡ behind_comma fs
unfolding print_from group_text
with_comma [] some = absurd (omega arith)
with_comma (f ∷ fs) some = refl

-- the tokens of a group and of what comes behind it
split : (c : Bool) (fs : Fields) (rest : List Token) → IsGroup fs → print_from c (member_tokens fs ++ rest) ≡ print_from c (member_tokens fs) ++ print_from true rest
split c fs rest some = print_from-append c (member_tokens fs) rest ∙ ap (λ b. print_from c (member_tokens fs) ++ print_from b rest) (ends_group c fs some)

group_first : (fs : Fields) (rs : List Fields) → member_tokens (flat (fs ∷ rs)) ++ end_object ∷ [] ≡ member_tokens fs ++ (member_tokens (flat rs) ++ end_object ∷ [])
group_first fs rs = ap (λ (ts : List Token). ts ++ end_object ∷ []) (append_tokens fs (flat rs)) ∙ append_assoc (member_tokens fs) (member_tokens (flat rs)) (end_object ∷ [])

behind_is : (rs : List Fields) → AllByRecursion IsGroup rs → print_from true (member_tokens (flat rs) ++ end_object ∷ []) ≡ flat_map behind_comma rs ++ 125 ∷ []
unfolding print_from
behind_is [] all = refl
behind_is (fs ∷ rs) all =
    ap (print_from true) (group_first fs rs) ∙ split true fs (member_tokens (flat rs) ++ end_object ∷ []) all.0
    ∙ (λ i. with_comma fs all.0 i ++ behind_is rs all.1 i) ∙ sym (append_assoc (behind_comma fs) (flat_map behind_comma rs) (125 ∷ []))

object_is : (fs : Fields) (rs : List Fields) → IsGroup fs → AllByRecursion IsGroup rs → object_front (fs ∷ rs) ++ 125 ∷ [] ≡ compact_text (tree (flat (fs ∷ rs)))
unfolding print_from group_text
object_is fs rs some all =
    ap (λ (s : List ℕ). 123 ∷ s) (append_assoc (group_text fs) (flat_map behind_comma rs) (125 ∷ []) ∙ ap (λ (s : List ℕ). group_text fs ++ s) (sym (behind_is rs all))
    ∙ sym (ap (print_from false) (group_first fs rs) ∙ split false fs (member_tokens (flat rs) ++ end_object ∷ []) some))
    ∙ ap print (sym (tree_tokens (flat (fs ∷ rs)))) ∙ print-outline (tree (flat (fs ∷ rs)))

abbrev full_rest : Row → Option Action → List Fields
full_rest r o = map (λ (k : Group). group_fields k r o) (group.Country ∷ group.Center ∷ group.Urls ∷ group.Hosts ∷ group.Coordination ∷ group.Moments ∷ group.Terms ∷ group.State ∷ group.StatusPage ∷ group.Vip ∷ [])

abbrev compact_rest : Row → Option Action → List Fields
compact_rest r o = map (λ (k : Group). group_fields k r o) (group.Center ∷ group.Hosts ∷ group.Moments ∷ group.State ∷ group.Vip ∷ [])

full_is : (r : Row) (o : Option Action) → object_front (full_groups r o) ++ 125 ∷ [] ≡ compact_text (mention_tree Full (r, o))
unfolding instance_tree
full_is r None = object_is (group_fields group.Names r None) (full_rest r None) (omega arith) (omega arith, (omega arith, (omega arith, (omega arith, (omega arith, (omega arith, (omega arith, (omega arith, (omega arith, (omega arith, tt))))))))))
full_is r (Some a) = object_is (group_fields group.Names r (Some a)) (full_rest r (Some a)) (omega arith) (omega arith, (omega arith, (omega arith, (omega arith, (omega arith, (omega arith, (omega arith, (omega arith, (omega arith, (omega arith, tt))))))))))

compact_is : (r : Row) (o : Option Action) → object_front (compact_groups r o) ++ 125 ∷ [] ≡ compact_text (mention_tree Compact (r, o))
unfolding instance_tree
compact_is r None = object_is (group_fields group.Names r None) (compact_rest r None) (omega arith) (omega arith, (omega arith, (omega arith, (omega arith, (omega arith, tt)))))
compact_is r (Some a) = object_is (group_fields group.Names r (Some a)) (compact_rest r (Some a)) (omega arith) (omega arith, (omega arith, (omega arith, (omega arith, (omega arith, tt)))))

ended_utf8 : (s : List ℕ) → IsUtf8 s → IsUtf8 (s ++ 125 ∷ [])
ended_utf8 s is = IsUtf8-append s (125 ∷ []) is (IsUtf8-are_ascii (125 ∷ []) refl)

-- a text is that of the tree, and UTF-8
pub record IsWhole (text wanted : List ℕ) : Type 0 where
  pub all : text ≡ wanted
  pub utf8 : IsUtf8 text

pub full_ended : (old text : List ℕ) (r : Row) (o : Option Action) → IsObjectFront old (full_groups r o) → text ≡ old ++ 125 ∷ [] → IsWhole text (compact_text (mention_tree Full (r, o)))
full_ended old text r o is end = record { all = end ∙ ap (λ (s : List ℕ). s ++ 125 ∷ []) is.items ∙ full_is r o; utf8 = subst IsUtf8 (sym end) (ended_utf8 old is.utf8) }

pub compact_ended : (old text : List ℕ) (r : Row) (o : Option Action) → IsObjectFront old (compact_groups r o) → text ≡ old ++ 125 ∷ [] → IsWhole text (compact_text (mention_tree Compact (r, o)))
compact_ended old text r o is end = record { all = end ∙ ap (λ (s : List ℕ). s ++ 125 ∷ []) is.items ∙ compact_is r o; utf8 = subst IsUtf8 (sym end) (ended_utf8 old is.utf8) }
