-- What a call leaves, by its parts. Assumes nothing.
use mathlib.Core.Path.{◌≡◌, refl, sym, ap, ◌∙◌}
use mathlib.Core.Bool.{Bool, true, false}
use mathlib.Core.List.{List, [], ◌++◌}
use Prim.Native.Nat.{ℕ, ◌+◌, ◌-◌, ◌^◌, ◌<◌, ◌≤◌}
use native.Mathlib.Nat.{sub-zero}
use native.Mathlib.Omega.{arith}
use lib.ListN.{length, take, drop, length-take, length-drop}
use lib.Seq.{take-take, take-length, length-take-le, drop-drop}
use Rattle.lengths_lines.specs.Lines.{IsLayout}
use Rattle.lengths_program.specs.declared.Stage.{Stage}
use Rattle.lengths_program.specs.declared.Stage.TheVariants.{Set, Runs, Ended}
use Rattle.lengths_program.specs.declared.State.{State}
use Rattle.lengths_program.specs.declared.Begun.{Begun}
use Rattle.lengths_program.specs.declared.Begun.TheVariants as begun
use Rattle.lengths_program.specs.declared.Passed.{Passed}
use Rattle.lengths_program.specs.declared.Passed.TheVariants as passed
use Rattle.lengths_program.specs.Lines.{runs, left, Ends}
use Rattle.lengths_program.specs.Parts.{Room, Within, Ready, Stops, Ran, used_by, Begins}
use Rattle.lengths_program.specs.Calls.{Pauses, Told, IsEnded}
use Rattle.lengths_program.proofs.Runs.{prints_then}
use Rattle.lengths_program.proofs.Buffer.{drop_part}

-- ---- the layout at the start of its buffer

-- the layout that a stage goes by was read
pub ready_read : {layout : List ℕ} {σ : Stage} {run m : ℕ} → Ready layout σ → σ ≡ Runs run m → (m ≤ length layout) × IsLayout (take m layout)
ready_read Ready.set e = let z : ◌≡◌ {A = ℕ} 0 1 = cc in absurd (omega arith)
ready_read {m = m} (Ready.read {m = k} h r) e = let z : k ≡ m = cc in (omega arith, rw z at r)
ready_read Ready.ended e = let z : ◌≡◌ {A = ℕ} 0 1 = cc in absurd (omega arith)

module _ (m : ℕ) (layout : List ℕ) where
  -- what is read of the layout's own bytes is read of the whole buffer
  left_front : {σ : Stage} (s : List ℕ) → Ready (take m layout) σ → left σ (take m layout) s ≡ left σ layout s
  left_front s Ready.set = refl
  left_front s (Ready.read {m = k} h r) = rw (take-take k m layout (omega (arith, length-take m layout)))
  left_front s Ready.ended = refl

  -- a stage that goes by the layout's own bytes goes by the whole buffer
  ready_front : {σ : Stage} → Ready (take m layout) σ → Ready layout σ
  ready_front Ready.set = Ready.set
  ready_front (Ready.read {m = k} h r) = Ready.read {m = k} (omega (arith, length-take m layout)) (rw (take-take k m layout (omega (arith, length-take m layout))) at r)
  ready_front Ready.ended = Ready.ended

  -- so it is with what a call leaves
  told_front : {last : Bool} {f : List ℕ → List ℕ} {s input out : List ℕ} {r : State} → Told last f s (take m layout) input out r → Told last f s layout input out r
  told_front {input = input} {out = out} {r = r} t =
      record {
        held = t.held;
        ready = ready_front t.ready;
        wrote = t.wrote;
        same = t.same;
        prints = record { is = λ rest e. t.prints.is rest e ∙ ap (λ (z : List ℕ). take r.wrote out ++ z) (left_front (take r.held input ++ rest) t.ready) };
        pauses = t.pauses;
      }

-- ---- the program has ended

-- what a call leaves that printed the last of all lines: the ways to end use it
told_ended : {last : Bool} {f : List ℕ → List ℕ} {s out : List ℕ} {w : ℕ} {r : State} (layout input : List ℕ) → IsEnded last w r → w ≤ length out →
    ((rest : List ℕ) → Ends last rest → f (s ++ rest) ≡ take w out ++ []) → Told last f s layout input out r
told_ended layout input e h g =
    record {
      held = omega (arith, e.held);
      ready = rw e.stage Ready.ended;
      wrote = omega (arith, e.printed);
      same = e.same;
      prints = record { is = λ rest ends. rw (e.stage, e.printed) (g rest ends) };
      pauses = Pauses.ended e.stage;
    }

-- ---- runs

module _ {first : ℕ} {layout s : List ℕ} {last : Bool} {out : List ℕ} {p : Passed} (ran : Ran first layout s last out p) where
  -- the last line was printed
  pub go_ended : {w : ℕ} {r : State} (input : List ℕ) → p ≡ passed.Ended w → IsEnded last w r → Told last (runs layout first) s layout input out r
  go_ended input e d = let q = rw e at ran in told_ended layout input d q.wrote q.prints.is

  -- why a state says that no further line was printed
  pauses_with : {wants : Bool} {next used w : ℕ} {τ : State} → p ≡ passed.More wants next used w → τ.stage ≡ Runs next (length layout) → τ.held + used ≡ length s →
      τ.last ≡ last → τ.wants ≡ wants → τ.wrote ≡ w → Pauses (length out) τ
  pauses_with {wants} {next} {used} {w} {τ} e es eh el ew ep = go ran.stops e
    where
      go : {q : Passed} → Stops s last (length out) q → q ≡ passed.More wants next used w → Pauses (length out) τ
      go Stops.ended d = let z : ◌≡◌ {A = ℕ} 0 1 = cc in absurd (omega arith)
      go (Stops.input {used = u} a b) d = let z : u ≡ used = cc in let y : true ≡ wants = cc in Pauses.input (ew ∙ sym y) (el ∙ a) (omega arith)
      go (Stops.output {w = v} b) d = let z : v ≡ w = cc in let y : false ≡ wants = cc in Pauses.output (ew ∙ sym y) (omega arith)
      go (Stops.counted {run = n} b) d = let z : n ≡ next = cc in let y : false ≡ wants = cc in Pauses.counted (ew ∙ sym y) es (omega arith)

-- the bytes that were not used lie in the buffer
pub used_within : {first : ℕ} {layout : List ℕ} {last : Bool} {out : List ℕ} {p : Passed} {wants : Bool} {next used w from to : ℕ} (input : List ℕ) →
    Ran first layout (take (to - from) (drop from input)) last out p → p ≡ passed.More wants next used w → Within from to input → Within (from + used) to input
used_within {from = from} {to} input ran e h =
    record { order = omega (arith, ap used_by e, ran.used, length-take (to - from) (drop from input), h.order); inside = h.inside; few = h.few }

-- what is left of a part stands at the start of the buffer
rest_is : (from to used k : ℕ) (input more : List ℕ) → Within (from + used) to input → k ≡ to - (from + used) → take k more ≡ take k (drop (from + used) input) →
    take k more ≡ drop used (take (to - from) (drop from input))
rest_is from to used k input more h ek e =
    let z : to - from ≡ used + k = omega (arith, h.order) in
    e ∙ rw (z, drop_part used k (drop from input) (omega (arith, h.order, h.inside, length-drop from input)), drop-drop used from input)

module _ {first : ℕ} {layout : List ℕ} {last : Bool} {out : List ℕ} {p : Passed} {wants : Bool} {next used w from to k : ℕ} (input more : List ℕ)
    (ran : Ran first layout (take (to - from) (drop from input)) last out p) (e : p ≡ passed.More wants next used w) (h : Within from to input) (l : IsLayout layout)
    (ek : k ≡ to - (from + used)) (em : take k more ≡ take k (drop (from + used) input)) where
  -- as many bytes are held as were not used
  held_is : k + used ≡ length (take (to - from) (drop from input))
  held_is =
      let u = used_within input ran e h in
      omega (arith, u.order, length-take (to - from) (drop from input), length-drop from input, h.inside)

  -- they are there
  held_in : k ≤ length more
  held_in =
      let u = used_within input ran e h in
      omega (arith, ap length em, length-take k more, length-take k (drop (from + used) input), length-drop (from + used) input, u.order, u.inside)

  -- the runs go on behind what was used
  pub go_more : {τ : State} → τ.stage ≡ Runs next (length layout) → τ.held ≡ k → τ.last ≡ last → τ.wants ≡ wants → τ.wrote ≡ w →
      Told last (runs layout first) (take (to - from) (drop from input)) layout more out τ
  go_more {τ} es eh el ew ep =
      let q = rw e at ran in
      let x : take k more ≡ drop used (take (to - from) (drop from input)) = rest_is from to used k input more (used_within input ran e h) ek em in
      record {
        held = omega (arith, held_in);
        ready = rw es (Ready.read {m = length layout} (omega arith) (rw (take-length layout) l));
        wrote = omega (arith, q.wrote);
        same = el;
        prints = record { is = λ rest ends. rw (es, eh, ep, x, take-length layout) (q.prints.is rest ends) };
        pauses = pauses_with ran e es (omega (arith, held_is)) el ew ep;
      }

-- ---- a call

module _ {σ : Stage} where
  -- it had ended before
  pub lines_ended : {last : Bool} {r : State} (layout s input out : List ℕ) → σ ≡ Ended → IsEnded last 0 r → Told last (left σ layout) s layout input out r
  lines_ended layout s input out e d = rw e (told_ended layout input d (omega arith) (λ rest ends. refl))

  -- runs came next
  pub lines_runs : {last : Bool} {run m : ℕ} {r : State} (n : ℕ) (layout input : List ℕ) {more out : List ℕ} → σ ≡ Runs run m →
      Told last (runs (take m layout) run) (take (n - 0) (drop 0 input)) (take m layout) more out r → Told last (left σ layout) (take n input) layout more out r
  lines_runs {m = m} n layout input e t = rw e (told_front m layout (rw (sub-zero n) at t))

  module _ (e : σ ≡ Set) {last : Bool} (n : ℕ) (layout input : List ℕ) {layout' out : List ℕ} {b : Begun} (begins : Begins (take n input) last layout' out b) where
    -- the set is not there whole
    pub lines_part : {τ : State} → b ≡ begun.Part → n ≤ length input → τ.stage ≡ Set → τ.held ≡ n → τ.last ≡ last → τ.wants ≡ true → τ.wrote ≡ 0 →
        Told last (left σ layout) (take n input) layout' input out τ
    lines_part d h es eh el ew ep =
        rw e
        (record {
          held = omega arith;
          ready = rw es Ready.set;
          wrote = omega arith;
          same = el;
          prints = record { is = λ rest ends. rw (es, eh, ep) };
          pauses = Pauses.input ew (el ∙ (begins.waits d).0) (omega (arith, (begins.waits d).1, length-take-le n input h));
        })

    -- the set is refused
    pub lines_stopped : {w : ℕ} {τ : State} → b ≡ begun.Ended w → IsEnded last w τ → Told last (left σ layout) (take n input) layout' input out τ
    lines_stopped d i = let q = rw d at begins in rw e (told_ended layout' input i q.wrote q.prints.is)

    -- it is built
    module _ {from m : ℕ} (d : b ≡ begun.Built from m) where
      -- its layout was read
      pub built_read : (m ≤ length layout') × IsLayout (take m layout')
      built_read = let q = rw d at begins in ready_read q.ready refl

      -- it ends in what is held
      pub built_within : n ≤ length input → length input < 2 ^ 63 → Within from n input
      built_within h g = let q = rw d at begins in record { order = omega (arith, q.used, length-take-le n input h); inside = h; few = g }

      -- the runs came next
      pub lines_built : {more out' : List ℕ} {τ : State} → n ≤ length input → Told last (runs (take m layout') 0) (take (n - from) (drop from input)) (take m layout') more out' τ →
          Told last (left σ layout) (take n input) layout' more out' τ
      lines_built h t =
          let q = rw d at begins in
          let o : from ≤ n = omega (arith, q.used, length-take-le n input h) in
          let u = told_front m layout' t in
          let z : from + (n - from) ≡ n = omega arith in
          let x : drop from (take n input) ≡ take (n - from) (drop from input) = ap (λ (k : ℕ). drop from (take k input)) (sym z) ∙ drop_part from (n - from) input (omega arith) in
          rw e
          (record {
            held = u.held;
            ready = u.ready;
            wrote = u.wrote;
            same = u.same;
            prints = prints_then (rw x at q.prints) u.prints;
            pauses = u.pauses;
          })

-- room is a matter of length
pub room_again : {xs ys : List ℕ} → Room xs → length ys ≡ length xs → Room ys
room_again r e = record { line = omega (arith, r.line); few = omega (arith, r.few) }
