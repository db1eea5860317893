pub mod MemberLaws
pub mod PartLaws
pub mod SmallLaws
pub mod FormLaws
pub mod FlatLaws
