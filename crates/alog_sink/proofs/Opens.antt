-- A sink that was opened stands for its opening files; and the sinks that become members of a fan.
use Rattle.std.proofs.Common.{◌≡◌, ◌≤◌, Bool, true, false, None, List, [], ◌∷◌, ◌++◌, length, refl, sym, ap, subst, ◌∙◌, arith}
use Rattle.std.specs.Iterator.{Yields}
use Rattle.std.specs.Vec.Iter.{into_iter_items, into_iter_steps}
use Rattle.std.specs.declared.vec.IntoIter.{IntoIter}
use Rattle.alog_sink.specs.Files.{Files}
use Rattle.alog_sink.specs.Kept.{IsKept}
use Rattle.alog_sink.specs.Opened.{Opened, leaves_of}
use Rattle.alog_sink.specs.Turn.{LeafView}
use Rattle.alog_sink.specs.declared.face.Face.{Face}
use Rattle.alog_sink.specs.declared.sink.Sink.{Sink}
use Rattle.alog_sink.specs.declared.sink.Sink.TheVariants.{Leaf, Fan}
use Rattle.alog_sink.specs.declared.target.Target.{Target}

pub opened : {S : Type 0} {tells : Bool} (files : S → Files) {face : Face} (IsSuch : Target → Type 0) {opening : Files} {target : Target}
    {store : S} {leaf : LeafView S} → leaf ≡ record { face = face; target = target; store = store; broken = false; previous = None }
    → IsSuch target
    → (tells ≡ true → IsKept target opening [] (files store)) → Opened tells files face IsSuch opening (Leaf leaf)
opened {S} {tells} files {face} IsSuch {opening} {target} {store} {leaf} is such kept =
    let v : LeafView S = record { face = face; target = target; store = store; broken = false; previous = None }
    in let P : LeafView S → Type 0 = λ l. Opened tells files face IsSuch opening (Leaf l)
    in subst P (sym is) (record {
      leaf = v;
      is = refl;
      same = refl;
      such = such;
      whole = refl;
      stands = λ t. record { whole = refl; written = []; lines = tt; kept = kept t; previous = refl };
    })

-- one sink more
pub leaves_more : {S : Type 0} (sinks : List (Sink S)) (sink : Sink S) → leaves_of (sinks ++ sink ∷ []) ≡ leaves_of sinks ++ leaves_of (sink ∷ [])
leaves_more [] sink = refl
leaves_more (Leaf l ∷ sinks) sink = ap (λ ls. l ∷ ls) (leaves_more sinks sink)
leaves_more (Fan f ∷ sinks) sink = leaves_more sinks sink

pub leaves_within : {S : Type 0} (sinks : List (Sink S)) → length (leaves_of sinks) ≤ length sinks
leaves_within [] = omega arith
leaves_within (Leaf l ∷ sinks) = let h = leaves_within sinks in omega arith
leaves_within (Fan f ∷ sinks) = let h = leaves_within sinks in omega arith

-- what the iterator of a list has given begins the list, and is all of it where nothing is to come
pub given_front : {X A : Type 0} (s : IntoIter X A) (xs : List X) (t : IntoIter X A) → Yields into_iter_steps s xs t
    → into_iter_items s ≡ xs ++ into_iter_items t
given_front s [] t y = ap into_iter_items y
given_front s (x ∷ xs) t y = y.1.0 ∙ ap (λ ys. x ∷ ys) (given_front y.0 xs t y.2)
