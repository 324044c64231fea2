-- A message whose head or body is refused, a request or a reply.
use Rattle.std.proofs.Common.{◌≡◌, ℕ, List, [], Option, Some, None, Result, Ok, Err, IsOk, ◌++◌, ◌⊎◌, sym, ap, drop, IfSome, inl, inr, refl, subst, arith}
use Rattle.std.specs.Io.KnownBytes.{Keeps, prepend_known}
use Rattle.disco_values.specs.declared.fault.Fault.{Fault}
use Rattle.disco_values.specs.declared.fault.Fault.TheVariants.{OutOfMemory}
use Rattle.disco_message.specs.declared.framing.Framing.{Framing}
use Rattle.disco_message.specs.declared.framing.Framing.TheVariants.{Sized, Chunked}
use Rattle.disco_message.specs.declared.limits.Limits.{Limits}
use Rattle.disco_message.specs.declared.received.Extent.{Extent}
use Rattle.disco_message.specs.declared.received.Extent.TheVariants.{Framed, UntilEnd}
use Rattle.disco_http.specs.Bodies.{BodyRefused}
use Rattle.disco_http.specs.Found.{IsRead}
use Rattle.disco_http.specs.Replies.{ExtentRefused}
use Rattle.disco_http.proofs.ChunkSteps.{known_is}

-- without memory any body is refused
pub no_memory : (limits : Limits) (framing : Framing) (after : List ℕ) → BodyRefused limits framing OutOfMemory after
no_memory limits (Sized n) after = tt
no_memory limits Chunked after = ([], after, refl, omega arith, tt)

pub no_room : (limits : Limits) (extent : Extent) (after : List ℕ) → ExtentRefused limits extent OutOfMemory after
no_room limits (Framed framing) after = no_memory limits framing after
no_room limits UntilEnd after = tt

-- what a head says was told, but for want of memory
abbrev pub Told : {H S : Type 0} → (H → Result S Fault) → Result S Fault → H → Type 0
Told say r h = (r ≡ say h) ⊎ ((r ≡ Err OutOfMemory) × IsOk (say h))

module _ {H S : Type 0} (say : H → Result S Fault) (begins : List ℕ → H → List ℕ → Type 0) where
  -- a head stands at the front of what is unread, whatever follows that
  abbrev Stands : List ℕ → ℕ → H → Type 0
  Stands u len h = (more : List ℕ) → begins (u ++ more) h (drop len u ++ more)

  pub said : (says : S) (h : H) → Told say (Ok says) h → say h ≡ Ok says
  said says h (inl e) = sym e
  said says h (inr e) = absurd (cc (e.0))

  -- a head that was found in the buffer stands in the stream, and what is left is what is ahead now
  pub head_read : (first a : Option (List ℕ)) (u now : List ℕ) (len : ℕ) (h : H) (says : S) → Stands u len h → Told say (Ok says) h → Keeps first (prepend_known u a) → now ≡ drop len u → IfSome first (λ stream. IsRead say begins stream says (prepend_known now a))
  head_read None a u now len h says stands told k is = tt
  head_read (Some stream) None u now len h says stands told k is = elim k [ ]
  head_read (Some stream) (Some more) u now len h says stands told k is =
      (h, drop len u ++ more, subst (λ (s : List ℕ). begins s h (drop len u ++ more)) k (stands more), said says h told, ap (λ (v : List ℕ). Some (v ++ more)) is)

  -- a head with the body behind it
  pub with_body : (Reads Takes : List ℕ → List ℕ → Type 0) (first mid now : Option (List ℕ)) (says : S) → ((stream : List ℕ) (h : H) (after rest : List ℕ) → begins stream h after → say h ≡ Ok says → Reads after rest → Takes stream rest)
      → IfSome first (λ stream. IsRead say begins stream says mid) → IfSome mid (λ after. (rest : List ℕ) × Reads after rest × (now ≡ Some rest)) → IfSome first (λ stream. (rest : List ℕ) × Takes stream rest × (now ≡ Some rest))
  with_body Reads Takes None mid now says takes found read = tt
  with_body Reads Takes (Some stream) mid now says takes found read =
      let body = known_is mid found.1 (λ after. (rest : List ℕ) × Reads after rest × (now ≡ Some rest)) found.4 read in
      (body.0, takes stream found.0 found.1 body.0 found.2 found.3 body.1, body.2)

  module _ (none : Fault → List ℕ → Type 0) (body : S → Fault → List ℕ → Type 0) where
    abbrev Behind : Fault → H → List ℕ → Type 0
    Behind fault h after = (say h ≡ Err fault) ⊎ ((says : S) × (say h ≡ Ok says) × body says fault after)

    -- why the stream begins with no message
    abbrev pub IsNone : Fault → List ℕ → Type 0
    IsNone fault stream = none fault stream ⊎ ((h : H) × (after : List ℕ) × begins stream h after × Behind fault h after)

    -- the body behind a head that may be read on is refused
    pub refused_body : (fault : Fault) (first mid : Option (List ℕ)) (says : S) → IfSome first (λ stream. IsRead say begins stream says mid) → IfSome mid (body says fault) → IfSome first (IsNone fault)
    refused_body fault None mid says found refused = tt
    refused_body fault (Some stream) mid says found refused =
        inr (found.0, found.1, found.2, inr (says, found.3, known_is mid found.1 (body says fault) found.4 refused))

    module _ (no_memory : (says : S) (after : List ℕ) → body says OutOfMemory after) where
      readable : (h : H) (after : List ℕ) (r : Result S Fault) → say h ≡ r → IsOk r → Behind OutOfMemory h after
      readable h after (Ok says) e ok = inr (says, e, no_memory says after)
      readable h after (Err fault) e ok = inr (absurd (cc ok))

      pub behind : (fault : Fault) (h : H) (after : List ℕ) → Told say (Err fault) h → Behind fault h after
      behind fault h after (inl e) = inl (sym e)
      behind fault h after (inr e) = subst (λ (f : Fault). Behind f h after) (sym (cc (e.0))) (readable h after (say h) refl e.1)

      -- a head that was found is refused
      pub head_refused : (fault : Fault) (first a : Option (List ℕ)) (u : List ℕ) (len : ℕ) (h : H) → Stands u len h → Told say (Err fault) h → Keeps first (prepend_known u a) → IfSome first (IsNone fault)
      head_refused fault None a u len h stands told k = tt
      head_refused fault (Some stream) None u len h stands told k = elim k [ ]
      head_refused fault (Some stream) (Some more) u len h stands told k =
          inr (h, drop len u ++ more, subst (λ (s : List ℕ). begins s h (drop len u ++ more)) k (stands more), behind fault h (drop len u ++ more) told)
