-- *Labels*: the labels of a graph are those of the binders.
pub mod LabelsBind
pub mod LabelsShow
pub mod LabelsOnce
