-- The names in a path of a row are those of its place.
use Rattle.std.proofs.Common.{◌≡◌, inl, inr, ℕ, ◌+◌, List, [], ◌∷◌, ◌++◌, zero, take, drop, Option, Some, None, option_map, get_or, ◌<◌, suc, Bool, true, false, cond, ◌||◌, codes, refl, sym, ap, ◌∙◌, arith}
use native.Mathlib.Numerals.{unary_clauses}
use Rattle.std.specs.List.{before_first, after_first, position_or_len}
use Rattle.std.specs.Str.{bytes_eq}
use Rattle.matchit.specs.Level.{IsText}
use Rattle.matchit.specs.Router.{RouteOf, map_key}
use Rattle.matchit.specs.Rows.{RowsOf}
use Rattle.matchit.specs.Seek.{first}
use Rattle.disco_calls.specs.declared.place.Place.{Place}
use Rattle.disco_calls.specs.declared.place.Place.TheVariants.{Id, Svip, Vip}
use Rattle.disco_calls.specs.declared.route.Route.{Route}
use Rattle.disco_calls.specs.Paths.{behind_base, path_place, is_slash, parts, parts_place, of_apps, of_instance, one_name, is_empty}
use Rattle.disco_calls.specs.Table.{table, place_filled, names, first_name, second_name}
use Rattle.disco_calls.proofs.RouterTable.{kind, routed}
use Rattle.disco_calls.proofs.RowWalks.{front, back, more, back_of, parts_of, split_on}

take_one : (n b : ℕ) (bs : List ℕ) → take (n + 1) (b ∷ bs) ≡ b ∷ take n bs
take_one n b bs = simp unary_clauses refl

take_more : (n b : ℕ) (bs : List ℕ) → take (1 + n) (b ∷ bs) ≡ b ∷ take n bs
take_more n b bs = let e : 1 + n ≡ n + 1 = omega arith in rw e (take_one n b bs)

drop_one : (n b : ℕ) (bs : List ℕ) → drop (n + 1) (b ∷ bs) ≡ drop n bs
drop_one n b bs = simp unary_clauses refl

drop_more : (n b : ℕ) (bs : List ℕ) → drop (1 + n + 1) (b ∷ bs) ≡ drop (n + 1) bs
drop_more n b bs = drop_one (1 + n) b bs ∙ ap (λ k. drop k bs) (omega arith)

before : (p : List ℕ) → before_first is_slash p ≡ front p
before [] = refl
before (b ∷ p) = elim (split_on (is_slash b)) [
  | inl e ↦ rw e refl
  | inr e ↦ rw e (take_more (position_or_len is_slash p) b p ∙ ap (λ f. b ∷ f) (before p))
]

-- what stands behind the slash at the front
abbrev behind : List ℕ → List ℕ
behind [] = []
behind (b ∷ q) = q

after : (p : List ℕ) → after_first is_slash p ≡ behind (back p)
after [] = refl
after (b ∷ p) = elim (split_on (is_slash b)) [
  | inl e ↦ rw e refl
  | inr e ↦ rw e (drop_more (position_or_len is_slash p) b p ∙ after p)
]

first_of : List (List ℕ) → List ℕ
first_of [] = []
first_of (x ∷ xs) = x

rest_of : List (List ℕ) → List (List ℕ)
rest_of [] = []
rest_of (x ∷ xs) = xs

-- the first part of a path stands before its first slash
first_part : (p x : List ℕ) (xs : List (List ℕ)) → parts p ≡ x ∷ xs → before_first is_slash p ≡ x
unfolding first_of
first_part p x xs e = before p ∙ ap first_of (sym (parts_of p) ∙ e)

-- the others stand behind it
other_parts : (p x y : List ℕ) (ys : List (List ℕ)) → parts p ≡ x ∷ y ∷ ys → parts (after_first is_slash p) ≡ y ∷ ys
unfolding rest_of
other_parts p x y ys e =
    let others : more (back p) ≡ y ∷ ys = ap rest_of (sym (parts_of p) ∙ e) in
    elim (back_of p) [
      | inl none ↦ absurd (not_nil y ys (rw none at others))
      | inr (q, some) ↦ rw (after p, some) (rw some at others)
    ]
  where
    not_nil : (y : List ℕ) (ys : List (List ℕ)) → [] ≡ y ∷ ys → ⊥
    not_nil y ys e = cc

names_of : (p folder name : List ℕ) (ns : List (List ℕ)) → parts p ≡ [] ∷ folder ∷ name ∷ ns → parts (names p) ≡ name ∷ ns
names_of p folder name ns e = other_parts (after_first is_slash p) folder name ns (other_parts p [] folder (name ∷ ns) e)

first_is : (p folder name : List ℕ) (ns : List (List ℕ)) → parts p ≡ [] ∷ folder ∷ name ∷ ns → first_name p ≡ name
first_is p folder name ns e = first_part (names p) name ns (names_of p folder name ns e)

second_is : (p folder name next : List ℕ) (ns : List (List ℕ)) → parts p ≡ [] ∷ folder ∷ name ∷ next ∷ ns → second_name p ≡ next
second_is p folder name next ns e = first_part (after_first is_slash (names p)) next ns (other_parts (names p) name next ns (names_of p folder name (next ∷ ns) e))

abbrev Fills : List ℕ → Option (Place (List ℕ)) → Type 0
Fills p found = option_map (λ k. place_filled k p) (option_map kind found) ≡ found

fills_either : (p : List ℕ) (u : Bool) (a b : Option (Place (List ℕ))) → Fills p a → Fills p b → Fills p (cond u a b)
fills_either p true a b f g = f
fills_either p false a b f g = g

fills_alone : (p folder : List ℕ) (to : List ℕ → Place (List ℕ)) (ns : List (List ℕ)) → ((name : List ℕ) → first_name p ≡ name → place_filled (kind (to name)) p ≡ to name) → parts p ≡ [] ∷ folder ∷ ns → Fills p (one_name to ns)
fills_alone p folder to [] as_to e = refl
fills_alone p folder to (name ∷ []) as_to e = fills_either p (is_empty name) None (Some (to name)) refl (ap (λ x. Some x) (as_to name (first_is p folder name [] e)))
fills_alone p folder to (name ∷ x ∷ xs) as_to e = refl

fills_instance : (p app id : List ℕ) (ns : List (List ℕ)) → first_name p ≡ app → second_name p ≡ id → Fills p (of_instance app id ns)
fills_instance p app id [] one two = rw (one, two) refl
fills_instance p app id (last ∷ []) one two = rw (← one, ← two) (fills_either p (bytes_eq last (codes "metadata")) _ _ refl (fills_either p (bytes_eq last (codes "status")) _ None refl refl))
fills_instance p app id (last ∷ x ∷ xs) one two = refl

fills_apps : (p folder : List ℕ) (ns : List (List ℕ)) → parts p ≡ [] ∷ folder ∷ ns → Fills p (of_apps ns)
fills_apps p folder [] e = refl
fills_apps p folder (app ∷ []) e = rw (← first_is p folder app [] e) (fills_either p (is_empty (first_name p)) _ _ refl (fills_either p (bytes_eq (first_name p) (codes "delta")) _ _ refl refl))
fills_apps p folder (app ∷ id ∷ ns) e = fills_either p (is_empty app || is_empty id) None (of_instance app id ns) refl (fills_instance p app id ns (first_is p folder app (id ∷ ns) e) (second_is p folder app id ns e))

fills : (p : List ℕ) (ps : List (List ℕ)) → parts p ≡ ps → Fills p (parts_place ps)
fills p [] e = refl
fills p ((b ∷ bs) ∷ ps) e = refl
fills p ([] ∷ []) e = refl
fills p ([] ∷ folder ∷ ns) e =
    fills_either p (bytes_eq folder (codes "apps")) (of_apps ns) _ (fills_apps p folder ns e)
    (fills_either p (bytes_eq folder (codes "instances")) (one_name (λ id. Id id) ns) _ (fills_alone p folder (λ id. Id id) ns (λ name is. ap (λ x. Id x) is) e)
    (fills_either p (bytes_eq folder (codes "svips")) (one_name (λ svip. Svip svip) ns) _ (fills_alone p folder (λ svip. Svip svip) ns (λ name is. ap (λ x. Svip x) is) e)
    (fills_either p (bytes_eq folder (codes "vips")) (one_name (λ vip. Vip vip) ns) None (fills_alone p folder (λ vip. Vip vip) ns (λ name is. ap (λ x. Vip x) is) e) refl)))

-- what is found of a path and filled with its names is its place
found : (p : List ℕ) (r : RouteOf Route) → IsText p → first table p ≡ Some r → Some (place_filled r.value p) ≡ parts_place (parts p)
found p r text e = ap (λ o. option_map (λ k. place_filled k p) (map_key (λ x. x.value) o)) (sym e) ∙ (ap (option_map (λ k. place_filled k p)) (routed p text) ∙ fills p (parts p) refl)

not_found : (p : List ℕ) → IsText p → first table p ≡ None → None ≡ parts_place (parts p)
not_found p text e = ap (λ o. option_map (λ k. place_filled k p) (map_key (λ x. x.value) o)) (sym e) ∙ (ap (option_map (λ k. place_filled k p)) (routed p text) ∙ fills p (parts p) refl)

is_text : (p : List ℕ) → ((i : ℕ) → get_or p i 0 < 256) → IsText p
is_text [] small = tt
is_text (b ∷ p) small = (small 0, is_text p (λ i. small (suc i)))

text_behind : (n : ℕ) (p : List ℕ) → IsText p → IsText (drop n p)
text_behind zero p text = text
text_behind (suc n) [] text = text
text_behind (suc n) (b ∷ p) text = text_behind n p text.1

based : (path behind : List ℕ) (n : ℕ) → n ≡ 10 → path ≡ codes "/eureka/v2" ++ drop n path → behind ≡ drop n path → behind_base path ≡ Some behind
based path behind n ten whole rest =
    let split : path ≡ codes "/eureka/v2" ++ behind = whole ∙ ap (λ r. codes "/eureka/v2" ++ r) (sym rest) in
    rw split refl

-- what is found behind the base and filled with its names is the place of the path
pub found_place : (rows : RowsOf (RouteOf Route)) (path behind : List ℕ) (n : ℕ) (r : RouteOf Route) → rows ≡ table → ((i : ℕ) → get_or path i 0 < 256) → n ≡ 10 → path ≡ codes "/eureka/v2" ++ drop n path → behind ≡ drop n path → first rows behind ≡ Some r → Some (place_filled r.value behind) ≡ path_place path
found_place rows path behind n r all small ten whole rest e =
    let text : IsText behind = rw rest (text_behind n path (is_text path small)) in
    rw (based path behind n ten whole rest) (found behind r text (rw all at e))

pub no_place : (rows : RowsOf (RouteOf Route)) (path behind : List ℕ) (n : ℕ) → rows ≡ table → ((i : ℕ) → get_or path i 0 < 256) → n ≡ 10 → path ≡ codes "/eureka/v2" ++ drop n path → behind ≡ drop n path → first rows behind ≡ None → None ≡ path_place path
no_place rows path behind n all small ten whole rest e =
    let text : IsText behind = rw rest (text_behind n path (is_text path small)) in
    rw (based path behind n ten whole rest) (not_found behind text (rw all at e))
