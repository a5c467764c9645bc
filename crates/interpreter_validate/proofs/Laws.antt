-- What a call answers where its questions are answered, with values or with a run; then what a type of an accepted layout comes to, and
-- where a run has its name, its buffer length and its values.
use mathlib.Core.Path.{◌≡◌, refl, sym, subst, ◌∙◌, ap}
use mathlib.Core.Bool.{Bool, true, false, cond}
use lib.Dec.{ltb, leb}
use borrow.Author.Tests.{lt-ltb, le-ltb, leb-true, leb-false}
use mathlib.Core.List.{List, [], ◌∷◌, ◌++◌, append-nil}
use Prim.Native.Nat.{ℕ, ◌+◌, ◌-◌, ◌*◌, ◌≤◌, ◌<◌}
use native.Mathlib.Nat.{mul-le-mul_right}
use native.Mathlib.Omega.{arith}
use lib.ListN.{length, take, drop, replicate, length-drop, length-replicate, replicate-append-replicate, drop_of_length-le}
use lib.Seq.{length-take-le, length_front, take_at, take_all}
use borrow.Rule.Slice.PartMut.{mid_of, post_of, put_mid}
use Rattle.errors.specs.Refusal.{Outcome, done, refused, ◌>>=◌, enough, plain, unread, words_after}
use Rattle.errors.specs.declared.Refusal.{Refusal}
use Rattle.std.specs.Borrow.{Bor}
use Rattle.std.specs.Prelude.{Option, Some, None, Result, Ok, Err, IsErrAnd}
use Rattle.errors.specs.declared.Reason.TheVariants.{UnknownType}
use Rattle.errors.specs.declared.Unread.{Unread}
use Rattle.value.specs.declared.Value.{Value}
use Rattle.errors.specs.Meaning.{number_of, refusal_of, outcome_of}
use Rattle.errors.proofs.Laws.{bound_done}
use Rattle.blocks.specs.Name.{Name}
use Rattle.blocks.specs.Tree.{Tree, name, num, block, cons, body, part}
use Rattle.blocks.specs.Read.{small, read_input, read_layout, read_run}
use Rattle.ir.specs.Layout.{layout_of}
use Rattle.blocks.specs.Bytes.{le2, le8}
use Rattle.blocks.specs.Grammar.{parts_of, find_row, grammar}
use Rattle.blocks.specs.declared.Part.TheVariants.{Text, Number, Block}
use Rattle.accepted.specs.Accepted.{Accepted, tree, Parts, name_at}
use Rattle.accepted.proofs.Laws.{input, opened, header_inside, text_part, number_part, block_part, behind_at}
use Rattle.reader_leaf.specs.Answer.{read_of}
use Rattle.reader_calls.specs.Inputs.{judge, passed, Least}
use Rattle.reader_calls.proofs.Laws.{judged, passed_no}
use Rattle.wire.specs.declared.Position.{Position}
use Rattle.lookup.specs.Found.{TreeFound}
use Rattle.interpreter.specs.Eval.{ParamMap, eval_within}
use Rattle.interpreter.specs.Validate.{with_buffer_size, fits_buffer, values_of, validate_type, validate, validate_run, run_of}
use Rattle.interpreter_values.specs.Remembered.{Remembered}
use Rattle.interpreter_context.specs.Context.{Context}
use Rattle.lookup.proofs.Values.{inside}
use Rattle.interpreter_leaves.specs.Steps.{Rooted}
use Rattle.interpreter_context.specs.declared.Root.{Root}
use Rattle.interpreter_leaves.specs.declared.Inputs.{Inputs}
use Rattle.interpreter_leaves.specs.declared.Frame.{Frame}
use Rattle.interpreter_eval.specs.Evaluates.{Ready, Evaluates}
use Rattle.interpreter_eval.proofs.Laws.{found_at_lem, found_none}
use Rattle.interpreter_validate.specs.declared.Ask.{Ask}
use Rattle.interpreter_validate.specs.declared.Ask.TheVariants as ask
use Rattle.interpreter_validate.specs.declared.Target.{Target}
use Rattle.interpreter_validate.specs.Validator.{kind_of, run_for, run_in, call_of, Judged, Asked, Located, Given, Aimed, TypeAnswers, TreeAnswers, Answers, Called}
use Rattle.interpreter_validate.specs.Validator.{AcceptedRun, RunRoot, words_for}

-- ---- a call: values or a run

-- both inputs
abbrev pair : Outcome Tree → Outcome Tree → Outcome (Tree × Tree)
pair x y = x >>= (λ l. y >>= (λ v. done (l, v)))

-- the questions may be put first, and what follows them afterwards
after_judging : (a b c : Outcome Unit) (x y : Outcome Tree) (g : Tree → Tree → Outcome ℕ) →
    (a >>= (λ u. b >>= (λ v. c >>= (λ w. x >>= (λ l. y >>= (λ t. g l t)))))) ≡ ((a >>= (λ u. b >>= (λ v. c >>= (λ w. pair x y)))) >>= (λ z. g z.0 z.1))
unfolding ◌>>=◌
after_judging (refused r) b c x y g = refl
after_judging (done u) (refused r) c x y g = refl
after_judging (done u) (done v) (refused r) x y g = refl
after_judging (done u) (done v) (done w) (refused r) y g = refl
after_judging (done u) (done v) (done w) (done l) (refused r) g = refl
after_judging (done u) (done v) (done w) (done l) (done t) g = refl

-- what an asked run of two inputs that were read comes to
abbrev both : Ask → Name → Tree × Tree → Outcome ℕ
both a m z = run_in z.0 (run_for a m z.1)

-- a call is judging its inputs and then evaluating
call_is : (a : Ask) (n : ℕ) (s : List ℕ) (m : Name) (v : List ℕ) → call_of a n s m v ≡ (judge n s v (kind_of a) >>= both a m)
unfolding validate validate_run judge
call_is (ask.Values len) n s m v = after_judging (enough n) (small s) (small v) (read_layout s) (read_input 2 192 v) (λ l t. run_in l (run_for (ask.Values len) m t))
call_is ask.Run n s m v = after_judging (enough n) (small s) (small v) (read_layout s) (read_input 2 193 v) (λ l t. run_in l (run_of t))

-- by what the code answers of the questions, with the kind that it reads
pub judged_of : {a : Ask} {n k : ℕ} {s v : List ℕ} {r : Result Unit Unread} → k ≡ kind_of a → read_of r ≡ passed (judge n s v k) → Judged a s v r n
judged_of {n} {s} {v} e d = record { is = d ∙ ap (λ (z : ℕ). passed (judge n s v z)) e }

module _ {a : Ask} {n : ℕ} {s v : List ℕ} {r : Result Unit Unread} (q : Judged a s v r n) where
  -- an input was refused
  pub stops : (m : Name) {u : Unread} (z : Result Value Refusal) → r ≡ Err u → IsErrAnd z (λ (x : Refusal). refusal_of x ≡ unread (number_of u.reason) u.offset) →
      outcome_of z ≡ call_of a n s m v
  unfolding ◌>>=◌
  stops m (Ok y) e f = absurd f
  stops m (Err x) e f = ap refused f ∙ sym (call_is a n s m v ∙ ap (λ (o : Outcome (Tree × Tree)). o >>= both a m) (passed_no (judge n s v (kind_of a)) (rw e at q.is)))

  module _ (e : r ≡ Ok tt) where
    -- both were read: what evaluating asks for
    pub given : Given a s v
    given =
        let j = judged (rw e at q.is) in
        record { layout = (j.layout, j.layout_read); other_read = (j.other, j.other_read); small = j.small_layout }

    -- 19 was asked: there are enough words
    pub enough_words : 8192 ≤ n
    enough_words = (judged (rw e at q.is)).words

    -- and what is asked for was evaluated
    pub goes : (m : Name) (x : Result Value Refusal) → Answers a s m v x → outcome_of x ≡ call_of a n s m v
    unfolding ◌>>=◌
    goes m x f =
        let j = judged (rw e at q.is) in
        f j.layout j.layout_read j.other j.other_read
        ∙ sym (call_is a n s m v ∙ ap (λ (o : Outcome (Tree × Tree)). o >>= both a m) j.is)

-- as many words are lent as evaluating may use
pub asked_room : {a : Ask} {n : ℕ} {s v ws : List ℕ} {r : Result Unit Unread} → Asked a s v r ws n → r ≡ Ok tt → 1168 ≤ length ws
asked_room asked e = asked.room (enough_words asked.questions e)

-- in the code's form, where it goes by what is asked for
module _ {a b : Ask} (e : a ≡ b) where
  -- the questions are answered for one as for the other
  pub asked_as : {s v ws : List ℕ} {r : Result Unit Unread} → ((n : ℕ) × Asked a s v r ws n) → (n : ℕ) × Asked b s v r ws n
  asked_as {s} {v} {ws} {r} (n, x) = (n, subst (λ (z : Ask). Asked z s v r ws n) e x)

  -- and so is the call
  pub called_as : (s : List ℕ) (m : Name) (v : List ℕ) (r : Result Unit Unread) (ws : List ℕ) (x : Result Value Refusal) → Called b s m v r ws x → Called a s m v r ws x
  called_as s m v r ws x f = subst (λ (z : Ask). Called z s m v r ws x) (sym e) f

-- ---- the words

-- what the code tests: there are few values
pub words_few : (tree values n : ℕ) → n < 256 → 16 ≡ words_for tree values n
unfolding words_for
words_few tree values n h = rw (lt-ltb n 256 h)

-- there are many, and the tree is short
pub words_short : (tree values n : ℕ) → 256 ≤ n → tree * n < 40 * (values + 22 * n) → 16 ≡ words_for tree values n
unfolding words_for
words_short tree values n h g = rw (le-ltb n 256 h, lt-ltb (tree * n) (40 * (values + 22 * n)) g)

-- it is long
pub words_many : (tree values n : ℕ) → 256 ≤ n → 40 * (values + 22 * n) ≤ tree * n → 1168 ≡ words_for tree values n
unfolding words_for
words_many tree values n h g = rw (le-ltb n 256 h, le-ltb (tree * n) (40 * (values + 22 * n)) g)

-- they are 16, or as many as values are remembered in
pub words_for_lem : (tree values n : ℕ) {k : ℕ} → k ≡ words_for tree values n → (16 ≤ k) × (k ≤ 1168) × (k ≤ 16 → k ≡ 16)
unfolding words_for
words_for_lem tree values n {k} e = go (ltb n 256) (ltb (tree * n) (40 * (values + 22 * n))) e
  where
    go : (b d : Bool) → k ≡ cond b 16 (cond d 16 1168) → (16 ≤ k) × (k ≤ 1168) × (k ≤ 16 → k ≡ 16)
    go true d e = (omega (arith, e), omega (arith, e), λ h. e)
    go false true e = (omega (arith, e), omega (arith, e), λ h. e)
    go false false e = (omega (arith, e), omega (arith, e), λ h. omega (arith, e, h))

-- the product of a number of four bytes and one of two has no more than eight
pub product_small : {x n : ℕ} → x < 4294967296 → n < 65536 → x * n < 18446744073709551616
product_small {x} {n} h g =
    let k : x * n ≤ 4294967295 * n = mul-le-mul_right n (omega (arith, h)) in
    omega (arith, k, g)

-- what a call uses of its words is no more than it ever needs
pub used_few : {n m k : ℕ} → Least n m k → k ≤ m
used_few {n} {m} {k} l = go (leb m n) refl
  where
    go : (b : Bool) → leb m n ≡ b → k ≤ m
    go true t = let h = leb-true m n t in omega (arith, l.enough h)
    go false t = let h = leb-false m n t in omega (arith, h, l.fewer h)

-- the first k words were cleared: there are as many
first_cleared : (ws zs : List ℕ) (k : ℕ) → zs ≡ replicate (length (take k ws)) 0 → length (zs ++ drop k ws) ≡ length ws
first_cleared ws zs k e = length_front ws zs k (ap length e ∙ length-replicate (length (take k ws)) 0)

-- so they are still within them
pub first_fits : (ws : List ℕ) {zs : List ℕ} (k : ℕ) → k ≤ length ws → zs ≡ replicate (length (take k ws)) 0 → k ≤ length (zs ++ drop k ws)
first_fits ws {zs} k h e = omega (arith, first_cleared ws zs k e)

-- zeros behind zeros
zeros_both : (zs us : List ℕ) (k m n : ℕ) → zs ≡ replicate k 0 → us ≡ replicate m 0 → k + m ≡ n → zs ++ us ≡ replicate n 0
zeros_both zs us k m n e f g = rw (e, f) (replicate-append-replicate k m 0 ∙ ap (λ (i : ℕ). replicate i 0) g)

-- the first k words were cleared, and then the others: all are zero
pub cleared_apart : (ws zs : List ℕ) (k : ℕ) → k ≤ length ws → zs ≡ replicate (length (take k ws)) 0 → (us xs : List ℕ) → xs ≡ zs ++ drop k ws →
    us ≡ replicate (length (mid_of k (length xs - k) xs)) 0 → put_mid k (length xs - k) xs us ≡ words_after ws
cleared_apart ws zs k h e us xs ex f =
    let t : length (take k ws) ≡ k = length-take-le k ws h in
    let l : length zs ≡ k = ap length e ∙ length-replicate (length (take k ws)) 0 ∙ t in
    let n : length xs ≡ length ws = ap length ex ∙ first_cleared ws zs k e in
    let first : take k xs ≡ replicate k 0 = ap (take k) ex ∙ take_at zs (drop k ws) k l ∙ e ∙ ap (λ (i : ℕ). replicate i 0) t in
    let d : length (drop k xs) ≡ length xs - k = length-drop k xs in
    let others : us ≡ replicate (length xs - k) 0 = f ∙ ap (λ (i : ℕ). replicate i 0) (ap length (take_all (length xs - k) (drop k xs) (omega (arith, d))) ∙ d) in
    let none : post_of k (length xs - k) xs ≡ [] = drop_of_length-le (drop k xs) {i = length xs - k} (omega (arith, d)) in
    ap (λ (z : List ℕ). take k xs ++ (us ++ z)) none
    ∙ ap (λ (z : List ℕ). take k xs ++ z) (append-nil us)
    ∙ zeros_both (take k xs) us k (length xs - k) (length ws) first others (omega (arith, n))

-- ---- a type of an accepted layout

-- the root's context
abbrev rooted_at : Target → Root
rooted_at t = record { block = t.block; len = t.len }

-- the frame of a type that was asked for
abbrev first_frame : Target → Frame
first_frame t = record { depth = 0; place = t.place }

module _ {s : List ℕ} {m : Name} {r : Option Position} (f : (t : Tree) → read_layout s ≡ done t → TreeFound s m (layout_of t) r) where
  -- no type has the name
  pub type_unknown : r ≡ None → (t : Tree) → read_layout s ≡ done t → (len : ℕ) (γ : ParamMap) (x : Refusal) → refusal_of x ≡ plain (number_of UnknownType) →
      outcome_of (Err x) ≡ validate_type (layout_of t) m len γ
  unfolding validate_type ◌>>=◌
  type_unknown e t rd len γ x g = rw (g, found_none e (f t rd))

  -- the tree that was found is that of the type
  pub type_named : {x : Position} → r ≡ Some x → (t : Tree) → read_layout s ≡ done t → TreeFound s m (layout_of t) (Some x)
  type_named e t rd = subst (TreeFound s m (layout_of t)) e (f t rd)

  -- so it may be evaluated
  pub type_aimed : {v : List ℕ} (t : Target) → r ≡ Some (record { place = t.place; at = t.at }) → Located s v t.block → Aimed s v t
  type_aimed t e g = record { located = g; named = (m, type_named e) }

-- the tree that is aimed at
pub aimed_tree : {s v : List ℕ} {t : Target} → Aimed s v t → Accepted s 161 161 t.at
aimed_tree a = let l = a.located.layout in (found_at_lem refl (a.named.1 l.0 l.1)).0

-- what is evaluated over
abbrev inputs_at : Bor (List ℕ) → Bor (List ℕ) → Target → Inputs
inputs_at l v t = record { layout = l; values = v; root = rooted_at t }

module _ (l v : Bor (List ℕ)) {t : Target} {q : ℕ} (rooted : (c : Accepted l.now 161 161 t.at) → Rooted c q) where
  -- the root is ready to be evaluated, over words that remember nothing
  pub root_ready : {us : List ℕ} → Aimed l.now v.now t → Remembered v.now t.block us → Ready (inputs_at l v t) us (first_frame t) q
  root_ready a m = record {
    node = (rooted (aimed_tree a)).root;
    layout = a.located.layout;
    context = (_, Context.root a.located.values_read m);
    here = λ d e. absurd (omega arith);
    calls = omega arith;
    room = m.room;
    small = a.located.small;
  }

  -- what it comes to, held against the buffer length, is the answer
  pub tree_goes : {ws : List ℕ} (r z : Result Value Refusal) → Remembered v.now t.block ws →
      Evaluates (inputs_at l v t) ws (first_frame t) q r → outcome_of z ≡ (outcome_of r >>= fits_buffer t.place t.len) → TreeAnswers l.now v.now t z
  unfolding validate_type
  tree_goes r z m ev fit n named d rd a =
      let c = found_at_lem refl (named d rd) in
      let k = rooted c.0 in
      let γ : ParamMap = with_buffer_size t.len (values_of (tree a)) in
      fit
      ∙ ap (λ (o : Outcome ℕ). o >>= fits_buffer t.place t.len) (ev γ (Context.root a m) d rd k.root ∙ ap (eval_within 16 (layout_of d) t.place γ) (sym k.is))
      ∙ sym (bound_done _ c.1)

-- a refusal of evaluating is handed on
pub refusal_goes : (u : Refusal) (z : Result Value Refusal) → IsErrAnd z (λ (e : Refusal). e ≡ u) → outcome_of z ≡ refused (refusal_of u)
refusal_goes u (Ok y) f = absurd f
refusal_goes u (Err e) f = rw f

-- the header of the tree lies in the bytes
pub tree_header : {s v : List ℕ} {t : Target} → Aimed s v t → t.at + 4 ≤ length s
tree_header a = omega (arith, header_inside (aimed_tree a))

-- and so do that of the values and their number
pub values_header : {s v : List ℕ} {t : Target} → Aimed s v t → t.block + 6 + 2 ≤ length v
values_header a = inside a.located.values_read

-- ---- values, which are the whole of their input

-- what evaluating their type asks for
pub values_located : {len : ℕ} {s v : List ℕ} → Given (ask.Values len) s v → Located s v 0
values_located {v} g = record { layout = g.layout; values_read = (input 2 192 v g.other_read.1).0; small = g.small }

-- what their type comes to is what is asked for
pub values_answer : (len : ℕ) (s v : List ℕ) (m : Name) (r : Result Value Refusal) → TypeAnswers s m v (record { block = 0; len = len }) r → Answers (ask.Values len) s m v r
values_answer len s v m r f t rd u ru =
    let b = input 2 192 v ru in
    f t rd b.0 ∙ ap (λ (z : Tree × ℕ). validate_type (layout_of t) m len (values_of z.0)) b.1

-- ---- a run

-- where a run's name, buffer length and values stand
pub record RunAt (s : List ℕ) (u : ℕ) (t : Tree) : Type 0 where
  pub inside : 8 + u + 8 ≤ length s
  pub named : (run_of t).type_name ≡ name_at s 6
  pub long : (run_of t).buffer_length ≡ le8 s (8 + u)
  pub block : Accepted s 192 192 (8 + u + 8)
  pub is : part 2 (body t) ≡ tree block

-- the name of a run, by its parts
run_name : (t b y : Tree) (m : Name) → t ≡ block 0 193 (cons (name m) (cons b y)) → (run_of t).type_name ≡ m
unfolding part
run_name t b y m e = rw e

-- its buffer length
run_length : (t a y : Tree) (w : ℕ) → t ≡ block 0 193 (cons a (cons (num 8 w) y)) → (run_of t).buffer_length ≡ w
unfolding part
run_length t a y w e = rw e

-- its block of values
run_values : (t a b y d m : Tree) → t ≡ block 0 193 (cons a (cons b y)) → y ≡ cons d m → part 2 (body t) ≡ d
unfolding part
run_values t a b y d m e f = rw (e, f)

-- the values of an accepted run, behind its name and its buffer length
run_third : {s : List ℕ} {u : ℕ} (t : Tree) (c : Parts s (Block 192 192 ∷ []) (8 + u + 8)) → 8 + u + 8 ≤ length s →
    t ≡ block 0 193 (cons (name (name_at s 6)) (cons (num 8 (le8 s (8 + u))) c.got.0)) → RunAt s u t
run_third t c h et =
    let k = block_part c in
    record { inside = h; named = run_name t _ _ _ et; long = run_length t _ _ _ et; block = k.child; is = run_values t _ _ _ _ _ et k.behind.tree }

-- its buffer length, behind its name
run_second : {s : List ℕ} {u : ℕ} (t : Tree) (c : Parts s (Number ∷ Block 192 192 ∷ []) (8 + u)) → t ≡ block 0 193 (cons (name (name_at s 6)) c.got.0) → RunAt s u t
run_second {s} {u} t c et =
    let k = number_part c in
    run_third t k.rest (omega (arith, k.inside, c.fits)) (et ∙ ap (λ (z : Tree). block 0 193 (cons (name (name_at s 6)) z)) k.tree)

-- its name, behind its header
run_first : {s : List ℕ} {u : ℕ} (t : Tree) (c : Parts s (Text ∷ Number ∷ Block 192 192 ∷ []) 6) → u ≡ le2 s 6 → t ≡ block 0 193 c.got.0 → RunAt s u t
run_first {s} {u} t c eu et =
    let e : 6 + 2 + le2 s 6 ≡ 8 + u = omega (arith, eu) in
    let k = behind_at e (text_part c).1 in
    run_second t k.rest (et ∙ ap (block 0 193) k.tree)

-- every accepted run is such
pub run_at : {s : List ℕ} {u : ℕ} {t : Tree} → read_run s ≡ done t → u ≡ le2 s 6 → RunAt s u t
unfolding parts_of find_row grammar
run_at {s} {u} {t} e eu = go (input 2 193 s e)
  where
    go : ((a : Accepted s 193 193 0) × (a.got ≡ (t, length s))) → RunAt s u t
    go (a, g) =
        let o = opened a refl refl in
        let k : le2 s 4 ≡ 193 = omega (arith, o.least, o.most) in
        let p = opened {k = 193} {ps = Text ∷ Number ∷ Block 192 192 ∷ []} a k refl in
        run_first t p.parts eu (sym (ap (λ (z : Tree × ℕ). z.0) g) ∙ p.tree)

-- its header, its name and its buffer length lie in the bytes
pub run_inside : (v : List ℕ) → AcceptedRun v → 6 + 2 + le2 v 6 + 8 ≤ length v
run_inside v g = omega (arith, (run_at {s = v} {u = le2 v 6} g.1 refl).inside)

-- what evaluating its type asks for
pub run_located : {s v : List ℕ} {r : Root} → Given ask.Run s v → RunRoot v r → Located s v r.block
run_located {s} {v} g e =
    record {
      layout = g.layout;
      values_read = subst (Accepted v 192 192) (sym e.block) (run_at g.other_read.1 refl).block;
      small = g.small;
    }

-- what its type comes to is what the run comes to
pub run_answers : (s : List ℕ) {v : List ℕ} {r : Root} {m : Name} → RunRoot v r → m ≡ name_at v 6 → (x : Result Value Refusal) → TypeAnswers s m v r x → Answers ask.Run s v v x
run_answers s {v} {r} {m} e em x f t rd u ru = go r.block e.block r.len e.long f
  where
    go : (b : ℕ) → b ≡ 8 + le2 v 6 + 8 → (len : ℕ) → len ≡ le8 v (8 + le2 v 6) → TypeAnswers s m v (record { block = b; len = len }) x → outcome_of x ≡ run_in t (run_of u)
    go b eb len el f =
        let k = run_at ru refl in
        let g : TypeAnswers s m v (record { block = 8 + le2 v 6 + 8; len = len }) x = subst (λ (z : ℕ). TypeAnswers s m v (record { block = z; len = len }) x) eb f in
        g t rd k.block
        ∙ ap (λ (z : Name). validate_type (layout_of t) z len (values_of (tree k.block))) (em ∙ sym k.named)
        ∙ ap (λ (z : ℕ). validate_type (layout_of t) (run_of u).type_name z (values_of (tree k.block))) (el ∙ sym k.long)
        ∙ ap (λ (z : Tree). validate_type (layout_of t) (run_of u).type_name (run_of u).buffer_length (values_of z)) (sym k.is)
