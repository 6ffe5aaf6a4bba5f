-- `term::from_children` meets its contract, kind by kind: packing carries products and unions over, and what is over is
-- handed on. Assumes nothing.
use native.Mathlib.Omega.{arith}
use Prim.Native.Nat.{◌≤◌, ◌<◌}
use borrow.Author.Rules.{rules}
use Rattle.formula.specs.Rule.{release_kind}
use Rattle.formula.specs.Kind.{kind_number}
use Rattle.term.specs.Term.{terms, cover, conflicts}
use Rattle.term.proofs.Packing.{pack_unions, pack_union, pack_conjunction, pack_disjunction}
use Rattle.term.proofs.Packing.{pack_until, pack_release, conflicts_conjunction, conflicts_until, conflicts_release}
use Rattle.term.proofs.ByKind.{above}
use Rattle.term.proofs.from_children.Goals as goal

pub returns-in-And : goal.returns-in-And
unfolding terms cover conflicts
returns-in-And c =
    record {
      handed_on = λ le. (c.if-a-gt-MAX_TERMS.false, c.if-b-gt-MAX_TERMS.false);
      has_terms = λ p q m f g mf mg a b.
          rw (c.in-And.is, pack_conjunction 0 f g mf mg)
          (c.product.ensures _ _ a b).packed;
      has_conflicts = λ p q m f g mf mg a b.
          rw (c.in-And.is, ← conflicts_conjunction 0 f g mf mg, ← a.conflicts, ← b.conflicts)
          (c.product.ensures _ _ a.packed b.packed).conflicts;
      is_cover = λ p q low m f g a b.
          rw (c.in-And.is, pack_unions (cover f) (cover g))
          (c.product.ensures _ _ a b).packed;
    }

pub returns-in-Or : goal.returns-in-Or
unfolding terms cover conflicts
returns-in-Or c =
    record {
      handed_on = λ le. (c.if-a-gt-MAX_TERMS.false, c.if-b-gt-MAX_TERMS.false);
      has_terms = λ p q m f g mf mg a b.
          rw (c.in-Or.is, pack_disjunction 0 f g mf mg)
          (c.union.ensures _ _ a b).packed;
      has_conflicts = λ p q m f g mf mg a b.
          rw (c.in-Or.is, ← a.conflicts, ← b.conflicts)
          (c.union.ensures _ _ a.packed b.packed).conflicts;
      is_cover = λ p q low m f g a b.
          rw (c.in-Or.is, pack_union (cover f) (cover g))
          (c.union.ensures _ _ a b).packed;
    }

pub returns-in-Until : goal.returns-in-Until
unfolding terms conflicts
returns-in-Until c =
    let high : 6 ≤ kind_number c.args.kind = rw c.in-Until.is (omega arith) in
    record {
      handed_on = λ le. (c.if-a-gt-MAX_TERMS.false, c.if-b-gt-MAX_TERMS.false);
      has_terms = λ p q m f g mf mg a b.
          rw (c.in-Until.is, pack_until _ f g mf mg, ← c.owe.ensures)
          (c.until.ensures _ _ a b).packed;
      has_conflicts = λ p q m f g mf mg a b.
          rw (c.in-Until.is, ← conflicts_until _ f g mf mg, ← c.owe.ensures, ← a.conflicts, ← b.conflicts)
          (c.until.ensures _ _ a.packed b.packed).conflicts;
      is_cover = λ p q low. absurd (omega arith);
    }

pub returns-in-Release : goal.returns-in-Release
unfolding terms conflicts
returns-in-Release c =
    let high : 6 ≤ kind_number c.args.kind = rw c.in-Release.is (omega arith) in
    record {
      handed_on = λ le. (c.if-a-gt-MAX_TERMS.false, c.if-b-gt-MAX_TERMS.false);
      has_terms = λ p q m f g mf mg a b.
          rw (c.in-Release.is, pack_release _ f g mf mg, ← c.owe-in-Release.ensures)
          (c.release.ensures _ _ a b).packed;
      has_conflicts = λ p q m f g mf mg a b.
          rw (
            c.in-Release.is,
            ← conflicts_release _ f g mf mg,
            ← c.owe-in-Release.ensures,
            ← a.conflicts,
            ← b.conflicts,
          )
          (c.release.ensures _ _ a.packed b.packed).conflicts;
      is_cover = λ p q low. absurd (omega arith);
    }

pub returns-in_default : goal.returns-in_default
unfolding terms conflicts
returns-in_default c =
    let k : release_kind < kind_number c.args.kind = search rules in
    record {
      handed_on = λ le. (c.if-a-gt-MAX_TERMS.false, c.if-b-gt-MAX_TERMS.false);
      has_terms = λ p q m f g mf mg a b. rw (above _ m f g _ k) c.none.ensures.packed;
      has_conflicts = λ p q m f g mf mg a b. rw (above _ m f g _ k) c.none.ensures.conflicts;
      is_cover = λ p q low. absurd (omega arith);
    }
